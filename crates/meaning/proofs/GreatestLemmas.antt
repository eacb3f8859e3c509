-- The greatest of the elements that a loop has read so far.
use Rattle.std.proofs.Common.{◌≡◌, ℕ, ◌+◌, ◌<◌, Bool, true, false, List, [], ◌∷◌, ◌++◌, length, filter, take, get_or, Option, Some, None, cond, refl, ap, sym, ◌∙◌, arith}
use Rattle.std.specs.List.{filter_map}
use Rattle.std.proofs.lemmas.List.{take_more, append-nil}
use Rattle.std.proofs.lemmas.List.Elements.{filter-append, filter_map-append}
use Rattle.std.proofs.lemmas.Bool.Decides.{nat_tests}
use Rattle.profile.specs.Greatest.{greater, greatest}
use Rattle.meaning.specs.Theory.Greatest.{greatest_of}

greater_more : {X : Type 0} (key : X → ℕ) (x y : X) (best : Option X)
    → Some (greater key x (greatest_of key best (Some y))) ≡ greatest_of key (Some (greater key x best)) (Some y)
greater_more key x y None = refl
greater_more key x y (Some z) = grind (arith, nat_tests)

-- the greatest with one more element at the end
greatest_more : {X : Type 0} (key : X → ℕ) (xs : List X) (y : X) → greatest key (xs ++ y ∷ []) ≡ greatest_of key (greatest key xs) (Some y)
greatest_more key [] y = refl
greatest_more key (x ∷ xs) y = ap (λ best. Some (greater key x best)) (greatest_more key xs y) ∙ greater_more key x y (greatest key xs)

best_more : {Y : Type 0} (key : Y → ℕ) (ys : List Y) (next : Option Y) → greatest key (ys ++ filter_map (λ (y : Option Y). y) (next ∷ [])) ≡ greatest_of key (greatest key ys) next
best_more {Y = Y} key ys None = rw append-nil (none (greatest key ys))
  where
    none : (best : Option Y) → best ≡ greatest_of key best None
    none None = refl
    none (Some z) = refl
best_more key ys (Some y) = greatest_more key ys y

one_of : {X Y : Type 0} (give : X → Option Y) (x : X) → filter_map give (x ∷ []) ≡ filter_map (λ (y : Option Y). y) (give x ∷ [])
one_of {Y = Y} give x = go (give x)
  where
    go : (next : Option Y) → filter_map (λ (y : Option Y). y) (next ∷ []) ≡ filter_map (λ (y : Option Y). y) (next ∷ [])
    go next = refl

-- the step of a loop that keeps the greatest value of a function at the elements that pass a test
pub passing_more : {X Y : Type 0} (key : Y → ℕ) (give : X → Option Y) (test : X → Bool) (xs : List X) (i : ℕ) (x : X) → i < length xs → x ≡ get_or xs i x
    → greatest key (filter_map give (filter test (take (i + 1) xs)))
    ≡ cond (test x) (greatest_of key (greatest key (filter_map give (filter test (take i xs)))) (give x)) (greatest key (filter_map give (filter test (take i xs))))
passing_more {X = X} {Y = Y} key give test xs i x below is =
    let more : take (i + 1) xs ≡ take i xs ++ x ∷ [] = take_more xs i x below ∙ ap (λ (y : X). take i xs ++ y ∷ []) (sym is) in
    rw (more, filter-append, filter_map-append) (go (test x))
  where
    before : List Y
    before = filter_map give (filter test (take i xs))

    go : (b : Bool) → greatest key (before ++ filter_map give (cond b (x ∷ []) [])) ≡ cond b (greatest_of key (greatest key before) (give x)) (greatest key before)
    go true = rw (one_of give x) (best_more key before (give x))
    go false = rw append-nil refl
