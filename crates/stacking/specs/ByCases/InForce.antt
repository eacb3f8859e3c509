-- The order of the levels that have a rate, and the place of a level among them.
use Rattle.std.specs.Prelude.{⊤, ℕ, ◌<◌, ◌≤◌, ◌==◌, Bool, false, List, [], ◌∷◌, length, take, drop, Option, Some, None, slice_get}
use Rattle.std.specs.List.{AllByRecursion}

-- each level is below all later ones
abbrev pub AreRising : List (ℕ × ℕ) → Type 0
AreRising [] = ⊤
AreRising (entry ∷ rates) = AllByRecursion (λ (later : ℕ × ℕ). entry.0 < later.0) rates × AreRising rates

-- levels before the place are below this level, and levels from the place on aren't
pub record IsPlaceOf (rates : List (ℕ × ℕ)) (level place : ℕ) : Type 0 where
  pub within : place ≤ length rates
  pub below : AllByRecursion (λ (entry : ℕ × ℕ). entry.0 < level) (take place rates)
  pub not_below : AllByRecursion (λ (entry : ℕ × ℕ). level ≤ entry.0) (drop place rates)

-- whether an entry has this level
abbrev pub is_of_level : ℕ → Option (ℕ × ℕ) → Bool
is_of_level level None = false
is_of_level level (Some entry) = entry.0 == level

-- whether the entry at a place has this level
abbrev pub has_level_at : List (ℕ × ℕ) → ℕ → ℕ → Bool
has_level_at rates level place = is_of_level level (slice_get rates place)
