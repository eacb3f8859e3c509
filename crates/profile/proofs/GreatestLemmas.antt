-- Lemmas on `greatest`: the greatest of a list with another last element, and its bounds.
use Rattle.std.proofs.Common.{◌≡◌, ℕ, ◌<◌, ◌≤◌, nat_lt, Bool, true, false, cond, List, [], ◌∷◌, ◌++◌, Option, Some, None, refl, ap, sym, ◌∙◌, arith}
use Rattle.std.specs.List.{AllByRecursion}
use Rattle.std.proofs.lemmas.Bool.Decides.{nat_tests}
use Rattle.profile.specs.Greatest.{IsGreatest, greater, greatest}

-- a last element above all the others is the greatest
pub greatest-push : {X : Type 0} (key : X → ℕ) (xs : List X) (y : X) → AllByRecursion (λ x. key x < key y) xs → greatest key (xs ++ y ∷ []) ≡ Some y
greatest-push key [] y below = refl
greatest-push key (x ∷ xs) y below =
    let rest : greatest key (xs ++ y ∷ []) ≡ Some y = greatest-push key xs y below.1 in
    let lower : key x < key y = below.0 in
    rw rest (grind (arith, nat_tests))

pub greatest-none : {X : Type 0} (key : X → ℕ) (xs : List X) → greatest key xs ≡ None → xs ≡ []
greatest-none key [] none = refl
greatest-none key (x ∷ xs) none = cc

-- if the greatest is at most a number, so is each element
none_above : {X : Type 0} (key : X → ℕ) (xs : List X) (x : X) (n : ℕ) → greatest key xs ≡ Some x → key x ≤ n → AllByRecursion (λ y. key y ≤ n) xs
none_above key [] x n is low = tt
none_above {X = X} key (y ∷ ys) x n is low = go (greatest key ys) refl is (λ z. none_above key ys z n)
  where
    go : (best : Option X) → greatest key ys ≡ best → Some (greater key y best) ≡ Some x → ((z : X) → greatest key ys ≡ Some z → key z ≤ n → AllByRecursion (λ w. key w ≤ n) ys)
        → AllByRecursion (λ w. key w ≤ n) (y ∷ ys)
    go None none is rest =
        let same : y ≡ x = cc in
        let empty : ys ≡ [] = greatest-none key ys none in
        let below : key y ≤ n = rw same low in
        rw empty (below, tt)
    go (Some z) best is rest = cases (nat_lt (key y) (key z)) refl is
      where
        cases : (b : Bool) → nat_lt (key y) (key z) ≡ b → Some (cond b z y) ≡ Some x → AllByRecursion (λ w. key w ≤ n) (y ∷ ys)
        cases true less is = let same : z ≡ x = cc in let below : key z ≤ n = rw same low in let under : key y ≤ n = grind (arith, nat_tests) in (under, rest z best below)
        cases false less is = let same : y ≡ x = cc in let below : key y ≤ n = rw same low in let under : key z ≤ n = grind (arith, nat_tests) in (below, rest z best under)

-- if each element is at most a number, so is the greatest
best_low : {X : Type 0} (key : X → ℕ) (xs : List X) (x : X) (n : ℕ) → AllByRecursion (λ y. key y ≤ n) xs → greatest key xs ≡ Some x → key x ≤ n
best_low key [] x n low is = cc
best_low {X = X} key (y ∷ ys) x n low is = go (greatest key ys) refl is (λ z. best_low key ys z n low.1)
  where
    go : (best : Option X) → greatest key ys ≡ best → Some (greater key y best) ≡ Some x → ((z : X) → greatest key ys ≡ Some z → key z ≤ n) → key x ≤ n
    go None none is rest = let same : y ≡ x = cc in rw (sym same) low.0
    go (Some z) best is rest = cases (nat_lt (key y) (key z)) is
      where
        cases : (b : Bool) → Some (cond b z y) ≡ Some x → key x ≤ n
        cases true is = let same : z ≡ x = cc in rw (sym same) (rest z best)
        cases false is = let same : y ≡ x = cc in rw (sym same) low.0

pub greatest-is : {X : Type 0} (key : X → ℕ) (xs : List X) (x : X) → greatest key xs ≡ Some x → IsGreatest key xs x
greatest-is key [] x is = cc
greatest-is {X = X} key (y ∷ ys) x is = go (greatest key ys) refl is (greatest-is key ys)
  where
    go : (best : Option X) → greatest key ys ≡ best → Some (greater key y best) ≡ Some x → ((z : X) → greatest key ys ≡ Some z → IsGreatest key ys z) → IsGreatest key (y ∷ ys) x
    go None none is rest =
        let same : y ≡ x = cc in
        let empty : ys ≡ [] = greatest-none key ys none in
        rw (same, empty) (record { before = []; after = []; stands = refl; above = tt; not_below = tt })
    go (Some z) best is rest = cases (nat_lt (key y) (key z)) refl is
      where
        cases : (b : Bool) → nat_lt (key y) (key z) ≡ b → Some (cond b z y) ≡ Some x → IsGreatest key (y ∷ ys) x
        cases true less is =
            let same : z ≡ x = cc in
            let tail = rest z best in
            let lower : key y < key z = grind (arith, nat_tests) in
            rw (sym same) (record { before = y ∷ tail.before; after = tail.after; stands = ap (λ (ws : List X). y ∷ ws) tail.stands; above = (lower, tail.above); not_below = tail.not_below })
        cases false less is =
            let same : y ≡ x = cc in
            let under : key z ≤ key y = grind (arith, nat_tests) in
            rw (sym same) (record { before = []; after = ys; stands = refl; above = tt; not_below = none_above key ys z (key y) best under })

first_best : {X : Type 0} (key : X → ℕ) (before : List X) (x : X) (after : List X) → AllByRecursion (λ y. key y < key x) before → AllByRecursion (λ y. key y ≤ key x) after
    → greatest key (before ++ x ∷ after) ≡ Some x
first_best {X = X} key [] x after above low = go (greatest key after) refl
  where
    go : (best : Option X) → greatest key after ≡ best → Some (greater key x best) ≡ Some x
    go None none = refl
    go (Some z) best = let under = best_low key after z (key x) low best in let not_less : nat_lt (key x) (key z) ≡ false = grind (arith, nat_tests) in rw not_less refl
first_best key (y ∷ ys) x after above low =
    let rest = first_best key ys x after above.1 low in
    let lower : key y < key x = above.0 in
    let less : nat_lt (key y) (key x) ≡ true = grind (arith, nat_tests) in
    rw (rest, less) refl

pub is-greatest : {X : Type 0} (key : X → ℕ) (xs : List X) (x : X) → IsGreatest key xs x → greatest key xs ≡ Some x
is-greatest key xs x is = ap (greatest key) is.stands ∙ first_best key is.before x is.after is.above is.not_below
