-- The next number that passes one of two tests, or a periodic test.
use Rattle.std.proofs.Common.{◌≡◌, ℕ, ◌+◌, ◌-◌, ◌*◌, ◌/◌, ◌%◌, ◌<◌, ◌≤◌, nat_lt, Bool, true, false, ◌||◌, cond, Option, Some, None, refl, sym, subst, ap, ◌∙◌, mod-lt, arith}
use Rattle.std.specs.Ordering.{nat_cmp}
use Rattle.std.proofs.Math.Nat.{div-add-mod}
use Rattle.std.proofs.lemmas.Nat.{mod-mul-add}
use Rattle.std.proofs.lemmas.Bool.Decides.{nat_tests}
use Rattle.recurrence.specs.ByCases.Sooner.{sooner}
use Rattle.recurrence.specs.Theory.Next.{sooner_number}
use Rattle.recurrence.specs.ByCases.Next.{IsFirstAfter, IsNext}

-- the next number that passes one of two tests
pub next_or : (p q : ℕ → Bool) (n : ℕ) (a b : Option ℕ) → IsNext p n a → IsNext q n b → IsNext (λ k. p k || q k) n (sooner nat_cmp a b)
next_or p q n None None no_a no_b = λ k later. rw (no_a k later, no_b k later) refl
next_or p q n None (Some b) no_a is_b = record {
  later = is_b.later;
  passes = rw (no_a b is_b.later, is_b.passes) refl;
  fails_between = λ k later early. rw (no_a k later, is_b.fails_between k later early) refl;
}
next_or p q n (Some a) None is_a no_b = record {
  later = is_a.later;
  passes = rw is_a.passes refl;
  fails_between = λ k later early. rw (is_a.fails_between k later early, no_b k later) refl;
}
next_or p q n (Some a) (Some b) is_a is_b = subst (IsNext (λ k. p k || q k) n) (sym (sooner_number a b)) (go (nat_lt b a) refl)
  where
    go : (less : Bool) → nat_lt b a ≡ less → IsNext (λ k. p k || q k) n (cond less (Some b) (Some a))
    go true less =
        let before : b < a = grind (arith, nat_tests) in
        record {
          later = is_b.later;
          passes = rw (is_a.fails_between b is_b.later before, is_b.passes) refl;
          fails_between = λ k later early. rw (is_a.fails_between k later (omega arith), is_b.fails_between k later early) refl;
        }
    go false less =
        let before : a ≤ b = grind (arith, nat_tests) in
        record {
          later = is_a.later;
          passes = rw is_a.passes refl;
          fails_between = λ k later early. rw (is_a.fails_between k later early, is_b.fails_between k later (omega arith)) refl;
        }

-- a test that never passes later changes nothing
pub next_beside : (p q : ℕ → Bool) (n : ℕ) (r : Option ℕ) → ((k : ℕ) → n < k → p k ≡ false) → IsNext q n r → IsNext (λ k. p k || q k) n r
next_beside p q n None never fails = next_or p q n None None never fails
next_beside p q n (Some r) never is = next_or p q n None (Some r) never is

-- in one occurrence the remainders increase by one from its start
begun : (n length : ℕ) → n - n % length ≡ (n / length) * length
begun n length = let e = div-add-mod n length in omega (arith, e)

within : (n length m : ℕ) → m < length → (n - n % length + m) % length ≡ m
within n length m inside = rw (begun n length) (mod-mul-add (n / length) length m inside)

within_at : (n length k : ℕ) → n < k → k < n - n % length + length → n % length ≤ n → k % length ≡ k - (n - n % length)
within_at n length k later inside low =
    let m = k - (n - n % length) in
    let e : n - n % length + m ≡ k = omega arith in
    let inner : m < length = omega arith in
    ap (λ j. j % length) (sym e) ∙ within n length m inner

-- a turn in the current occurrence
pub again_within : (p : ℕ → Bool) (n length turn : ℕ) → turn < length → n % length ≤ n → IsFirstAfter p (n % length) turn
    → IsFirstAfter (λ k. p (k % length)) n (n - n % length + turn)
again_within p n length turn inside low is =
    let after = is.later in
    record {
      later = omega arith;
      passes = ap p (within n length turn inside) ∙ is.passes;
      fails_between = λ k later early.
          ap p (within_at n length k later (omega arith) low) ∙ is.fails_between (k - (n - n % length)) (omega arith) (omega arith);
    }

-- otherwise the start of the next occurrence
pub again_after : (p : ℕ → Bool) (n length : ℕ) → 0 < length → n % length ≤ n → p 0 ≡ true → ((k : ℕ) → n % length < k → k < length → p k ≡ false)
    → IsFirstAfter (λ k. p (k % length)) n (n - n % length + length)
again_after p n length some low begins fails =
    let below : n % length < length = mod-lt n some in
    let sum : n - n % length + length ≡ (n / length + 1) * length + 0 = let e = begun n length in omega (arith, e) in
    record {
      later = omega arith;
      passes = ap p (ap (λ j. j % length) sum ∙ mod-mul-add (n / length + 1) length 0 some) ∙ begins;
      fails_between = λ k later early.
          ap p (within_at n length k later early low) ∙ fails (k - (n - n % length)) (omega arith) (omega arith);
    }
