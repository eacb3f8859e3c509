-- The greatest of a list by a key: OCPP's greatest startPeriod and highest stack level.
use Rattle.std.specs.Prelude.{◌≡◌, ℕ, ◌<◌, ◌≤◌, nat_lt, List, [], ◌∷◌, ◌++◌, Option, Some, None, if◌then◌else◌}
use Rattle.std.specs.List.{AllByRecursion}

-- the first element of a list with the greatest key
pub record IsGreatest {X : Type 0} (key : X → ℕ) (xs : List X) (x : X) : Type 0 where
  pub before : List X
  pub after : List X
  pub stands : xs ≡ before ++ x ∷ after
  pub above : AllByRecursion (λ y. key y < key x) before
  pub not_below : AllByRecursion (λ y. key y ≤ key x) after

-- of two elements the one with the greater key, or the first of equals
abbrev pub greater : {X : Type 0} → (X → ℕ) → X → Option X → X
greater key x None = x
greater key x (Some y) = if nat_lt (key x) (key y) then y else x

-- the first element with the greatest key: by the law `greatest_is_greatest`, the one that is
-- IsGreatest
abbrev pub greatest : {X : Type 0} → (X → ℕ) → List X → Option X
greatest key [] = None
greatest key (x ∷ xs) = Some (greater key x (greatest key xs))
