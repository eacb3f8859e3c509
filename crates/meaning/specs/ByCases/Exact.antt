-- The exact schedule of a limit, computed. The law `exact_schedules` ties it to IsExact of
-- Exact.antt, and to the results of a compiler in Compiled.antt.
use Rattle.std.specs.Prelude.{ℕ, ◌==◌, zero, suc, nat_lt, Bool, true, not, List, length, map, filter, Result, Ok, Err, if◌then◌else◌}
use Rattle.std.specs.List.{range_with_len}
use Rattle.ocpp_scalars.specs.declared.refusal.Refusal.{Refusal}
use Rattle.ocpp_scalars.specs.declared.refusal.Refusal.TheVariants.{ResultTooLong}
use Rattle.meaning.specs.declared.composite.CompositePeriod.{CompositePeriod}
use Rattle.meaning.specs.Limits.{max_composite_periods}
use Rattle.meaning.specs.Composite.{CompositeSchedule}

-- a period begins at the first second, and at each second with another limit than the one before
abbrev pub begins_period : (ℕ → ℕ) → ℕ → Bool
begins_period limit zero = true
begins_period limit (suc before) = not (limit before == limit (suc before))

-- the period of a limit that begins at a second
abbrev pub period_from : (ℕ → ℕ) → ℕ → CompositePeriod
period_from limit second = record { start = second; limit = limit second }

-- the exact periods of a limit over a number of seconds
abbrev pub exact_periods : (ℕ → ℕ) → ℕ → List CompositePeriod
exact_periods limit duration =
    map (period_from limit) (filter (begins_period limit) (range_with_len 0 duration))

-- the exact schedule of a limit over a number of seconds, or ResultTooLong if it is too long to be
-- an answer
abbrev pub exact_schedule : (ℕ → ℕ) → ℕ → Result CompositeSchedule Refusal
exact_schedule limit duration =
    if nat_lt max_composite_periods (length (exact_periods limit duration))
    then Err ResultTooLong
    else Ok (record { duration = duration; periods = exact_periods limit duration })
