-- The rates of stack levels at one time, and the one that prevails.
use Rattle.std.specs.Prelude.{◌≡◌, ℕ, ◌<◌, ◌==◌, List, [], ◌∷◌, Option, Some, None, if◌then◌else◌}

-- the rate of a level in a list of levels with their rates
abbrev pub rate_of : List (ℕ × ℕ) → ℕ → Option ℕ
rate_of [] level = None
rate_of (entry ∷ rates) level = if level == entry.0 then Some entry.1 else rate_of rates level

-- one level now has this rate, or none, and each other level is unchanged
abbrev pub IsSet : List (ℕ × ℕ) → ℕ → Option ℕ → List (ℕ × ℕ) → Type 0
IsSet old level rate new =
    (other : ℕ) → rate_of new other ≡ (if other == level then rate else rate_of old other)

-- a level has this rate, and no higher level has any
pub record IsHighest (rates : List (ℕ × ℕ)) (rate : ℕ) : Type 0 where
  pub level : ℕ
  pub has : rate_of rates level ≡ Some rate
  pub none_above : (higher : ℕ) → level < higher → rate_of rates higher ≡ None

-- The rate of the highest level that has one prevails (OCPP 1.6, 3.13); none if no level has one.
abbrev pub IsTop : List (ℕ × ℕ) → Option ℕ → Type 0
IsTop rates None = (level : ℕ) → rate_of rates level ≡ None
IsTop rates (Some rate) = IsHighest rates rate
