-- Composite schedules (OCPP 1.6, 5.7).
use Rattle.std.specs.Prelude.{◌≡◌, ℕ, ◌<◌, nat_le, List, [], ◌∷◌, filter, Option, Some, None, option_map}
use Rattle.std.specs.List.{AllByRecursion}
use Rattle.meaning.specs.declared.composite.CompositePeriod.{CompositePeriod}

-- limits over a number of seconds
pub record CompositeSchedule : Type 0 where
  pub duration : ℕ
  pub periods : List CompositePeriod

abbrev pub BeginAtZero : List CompositePeriod → Type 0
BeginAtZero [] = ⊥
BeginAtZero (p ∷ ps) = p.start ≡ 0

-- each period starts later than the one before it
abbrev pub AreStrictlyIncreasing : List CompositePeriod → Type 0
AreStrictlyIncreasing [] = Unit {0}
AreStrictlyIncreasing (p ∷ []) = Unit {0}
AreStrictlyIncreasing (p ∷ (q ∷ ps)) = (p.start < q.start) × AreStrictlyIncreasing (q ∷ ps)

-- the invariant of a composite schedule: its periods begin at 0, in strictly increasing order,
-- within its duration
pub record IsSchedule (duration : ℕ) (periods : List CompositePeriod) : Type 0 where
  pub first : BeginAtZero periods
  pub increasing : AreStrictlyIncreasing periods
  pub within : AllByRecursion (λ p. p.start < duration) periods

abbrev pub last : List CompositePeriod → Option CompositePeriod
last [] = None
last (p ∷ []) = Some p
last (p ∷ (q ∷ ps)) = last (q ∷ ps)

-- the limit that periods give at a second: that of the last one that has started by then
abbrev pub at : List CompositePeriod → ℕ → Option ℕ
at periods second =
    option_map (λ (p : CompositePeriod). p.limit)
    (last (filter (λ (p : CompositePeriod). nat_le p.start second) periods))
