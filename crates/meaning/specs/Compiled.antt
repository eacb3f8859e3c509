-- The results of a compiler of exact schedules.
use Rattle.std.specs.Prelude.{◌≡◌, ℕ, ◌<◌, ◌≤◌, List, length, Result, Ok, Err}
use Rattle.ocpp_scalars.specs.declared.refusal.Refusal.{Refusal}
use Rattle.ocpp_scalars.specs.declared.refusal.Refusal.TheVariants.{ResultTooLong, OutOfMemory}
use Rattle.meaning.specs.declared.composite.CompositePeriod.{CompositePeriod}
use Rattle.meaning.specs.Limits.{max_composite_periods}
use Rattle.meaning.specs.Composite.{CompositeSchedule}
use Rattle.meaning.specs.Exact.{IsExact}

-- the exact schedule, with at most as many periods as an answer may have
pub record IsExactAnswer (limit : ℕ → ℕ) (duration : ℕ) (schedule : CompositeSchedule)
    : Type 0 where
  pub lasts : schedule.duration ≡ duration
  pub exact : IsExact limit duration schedule.periods
  pub few : length schedule.periods ≤ max_composite_periods

-- the exact schedule has more periods than an answer may have
pub record IsTooLong (limit : ℕ → ℕ) (duration : ℕ) : Type 0 where
  pub more :
      (periods : List CompositePeriod)
      → IsExact limit duration periods → max_composite_periods < length periods

abbrev pub IsPermitted : (ℕ → ℕ) → ℕ → Refusal → Type 0
IsPermitted limit duration ResultTooLong = IsTooLong limit duration
IsPermitted limit duration OutOfMemory = Unit {0}
IsPermitted limit duration other = ⊥

-- The result of a compiler: the exact schedule; ResultTooLong if that has too many periods; or
-- OutOfMemory.
abbrev pub IsCompiled : (ℕ → ℕ) → ℕ → Result CompositeSchedule Refusal → Type 0
IsCompiled limit duration (Ok schedule) = IsExactAnswer limit duration schedule
IsCompiled limit duration (Err refusal) = IsPermitted limit duration refusal
