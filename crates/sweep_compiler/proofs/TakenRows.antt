-- The row that is due the soonest, removed from the queue.
use Rattle.std.proofs.Common.{◌≡◌, ℕ, ◌<◌, ◌≤◌, ◌==◌, zero, suc, Bool, true, false, not, List, [], ◌∷◌, length, drop, cond, Option, Some, None, refl, ap, sym, subst, arith}
use Rattle.std.specs.List.{AllByRecursion, Contains}
use Rattle.std.specs.List.Sorted.{IsPermutation}
use Rattle.std.specs.Option.{option_eq}
use Rattle.std.proofs.lemmas.Bool.{eq-eqb}
use Rattle.std.proofs.lemmas.Bool.Decides.{nat_tests}
use Rattle.std.proofs.lemmas.List.Sorted.{Contains-permutation, IsPermutation-cons, IsPermutation-sym, sum_by_popped, sum_by_pushed}
use Rattle.meaning.specs.View.{PointState}
use Rattle.sweep_compiler.specs.ByCases.Running.{RunningBound}
use Rattle.sweep_compiler.specs.ByCases.Queue.{Due, IsSoonestOf}
use Rattle.sweep_compiler.specs.ByCases.Swept.{row_count, due_in, passed_in, IsSwept, waiting_at}
use Rattle.sweep_compiler.proofs.Passing.{item, next_in, contains_first}
use Rattle.sweep_compiler.proofs.PassedRows.{has_bound}

pub all_has : (P : Due → Type 0) (items : List Due) (x : Due) → AllByRecursion P items → Contains items x → P x
all_has P [] x all (k, inside, is) = absurd (omega (arith, inside))
all_has P (y ∷ items) x all (zero, inside, is) = subst P is all.0
all_has P (y ∷ items) x all (suc k, inside, is) = all_has P items x all.1 (k, omega (arith, inside), is)

pub record IsTaken (at : ℕ) (bounds : List RunningBound) (items rest : List Due) (due : Due) : Type 0 where
  pub taken : IsPermutation items (item at due.bound due.row ∷ rest)
  pub at_is : due.instant ≡ at
  pub has_row : due.row < row_count bounds due.bound
  pub has_bound : due.bound < length bounds

pub taken_is : (state : PointState) (connector asked last at : ℕ) (bounds : List RunningBound) (items rest : List Due) (sum : ℕ) (due : Due) → IsSwept state connector asked last at bounds items sum
    → IsSoonestOf items at → IsPermutation items (due ∷ rest) → AllByRecursion (λ (other : Due). due.instant ≤ other.instant) items → IsTaken at bounds items rest due
taken_is state connector asked last at bounds items rest sum due swept here p least =
    let has : Contains items due = Contains-permutation (due ∷ rest) items due (IsPermutation-sym items (due ∷ rest) p) (contains_first due rest) in
    let low : at ≤ due.instant = all_has (λ (other : Due). at ≤ other.instant) items due here.least has in
    let high : due.instant ≤ here.item.instant = all_has (λ (other : Due). due.instant ≤ other.instant) items here.item least here.waits in
    let same = here.at in
    let e : due.instant ≡ at = omega (arith, low, high, same) in
    let row = (swept.each due has).has_row in
    record {
      taken = subst (λ (instant : ℕ). IsPermutation items (item instant due.bound due.row ∷ rest)) e p;
      at_is = e;
      has_row = row;
      has_bound = has_bound bounds due.bound due.row row;
    }

-- ---- the first, removed

pub first_out : (items rest : List Due) (due : Due) → items ≡ due ∷ drop 1 items → IsPermutation (drop 1 items) rest → IsPermutation items (due ∷ rest)
first_out items rest due is p = subst (λ (all : List Due). IsPermutation all (due ∷ rest)) (sym is) (IsPermutation-cons due (drop 1 items) rest p)

-- ---- the number that still wait at this instant

abbrev one_at : ℕ → Due → ℕ
one_at at due = cond (due.instant == at) 1 0

pub fewer_wait : (at n row : ℕ) (items rest : List Due) → IsPermutation items (item at n row ∷ rest) → waiting_at at rest < waiting_at at items
fewer_wait at n row items rest p =
    let all = sum_by_popped (one_at at) (item at n row) items rest p in
    let one : one_at at (item at n row) ≡ 1 = ap (λ (b : Bool). cond b 1 0) (eq-eqb at at refl) in
    omega (arith, all, one)

pub fewer_wait_again : (state : PointState) (connector asked last at next n row : ℕ) (bounds : List RunningBound) (items rest after : List Due) (sum : ℕ) → IsSwept state connector asked last at bounds items sum
    → IsPermutation items (item at n row ∷ rest) → due_in bounds n row ≡ Some at → Some next ≡ due_in (passed_in n row bounds) n row → IsPermutation (item next n row ∷ rest) after
    → waiting_at at after < waiting_at at items
fewer_wait_again state connector asked last at next n row bounds items rest after sum swept p is again back =
    let more = sum_by_pushed (one_at at) (item next n row) rest after back in
    let facts = next_in state connector asked last at next n row bounds is swept.passed (sym again) in
    let later = facts.later in
    let apart : (next == at) ≡ false = grind (arith, nat_tests, later) in
    let none : one_at at (item next n row) ≡ 0 = ap (λ (b : Bool). cond b 1 0) apart in
    let fewer = fewer_wait at n row items rest p in
    omega (arith, more, none, fewer)

-- ---- whether it is still due

pub is_due : (due : Option ℕ) (at : ℕ) (differs : Bool) → differs ≡ not (option_eq (λ (x y : ℕ). x == y) due (Some at)) → differs ≡ false → due ≡ Some at
is_due None at differs e h = cc
is_due (Some next) at differs e h = let same : next ≡ at = grind (arith, nat_tests, e, h) in ap (λ (n : ℕ). Some n) same

pub is_stale : (due : Option ℕ) (at : ℕ) (differs : Bool) → differs ≡ not (option_eq (λ (x y : ℕ). x == y) due (Some at)) → differs ≡ true → due ≡ Some at → ⊥
is_stale due at differs e h is = cases (ap (λ (found : Option ℕ). not (option_eq (λ (x y : ℕ). x == y) found (Some at))) is) (eq-eqb at at refl)
  where
    cases : not (option_eq (λ (x y : ℕ). x == y) due (Some at)) ≡ not (at == at) → (at == at) ≡ true → ⊥
    cases a b = cc

pub differ : (due : Option ℕ) (at other : ℕ) (same : Bool) → same ≡ option_eq (λ (x y : ℕ). x == y) due (Some other) → same ≡ false → at ≡ other → due ≡ Some at → ⊥
differ due at other same e h at_is is = cases (ap (λ (found : Option ℕ). option_eq (λ (x y : ℕ). x == y) found (Some other)) is) (eq-eqb at other at_is)
  where
    cases : option_eq (λ (x y : ℕ). x == y) due (Some other) ≡ (at == other) → (at == other) ≡ true → ⊥
    cases a b = cc
