-- Rows by falling stack level.
use Rattle.std.specs.Prelude.{ℕ, ◌<◌, ◌≡◌, ◌==◌, List, [], ◌∷◌, filter}
use Rattle.profile.specs.declared.row.Row.{Row}

-- a profile of a higher stack level comes before one of a lower level (OCPP 1.6, 3.13), and no two
-- have the same level
abbrev pub AreStrictlyFalling : List Row → Type 0
AreStrictlyFalling [] = Unit {0}
AreStrictlyFalling (row ∷ []) = Unit {0}
AreStrictlyFalling (row ∷ (next ∷ rows)) =
    (next.profile.stack_level < row.profile.stack_level) × AreStrictlyFalling (next ∷ rows)

abbrev pub rows_of_level : ℕ → List Row → List Row
rows_of_level level rows = filter (λ (row : Row). row.profile.stack_level == level) rows

-- the same rows by strictly falling level: as many of each stack level
pub record AreByFallingLevel (rows sorted : List Row) : Type 0 where
  pub falling : AreStrictlyFalling sorted
  pub same : (level : ℕ) → rows_of_level level sorted ≡ rows_of_level level rows
