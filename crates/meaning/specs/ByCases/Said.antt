-- Whether periods that a point reported make a schedule, computed. The law `said_schedules` ties it
-- to IsSaidSchedule of Said.antt.
use Rattle.std.specs.Prelude.{ℕ, ◌==◌, nat_lt, nat_le, Bool, true, false, ◌&&◌, List, [], ◌∷◌, length, Option, Some, None}
use Rattle.meaning.specs.declared.composite.CompositePeriod.{CompositePeriod}
use Rattle.meaning.specs.Limits.{max_composite_periods}

-- the first period begins at 0, and each other one later than the one before it
abbrev pub is_next : Option ℕ → ℕ → Bool
is_next None start = start == 0
is_next (Some before) start = nat_lt before start

-- periods after a start, if there is one, continue a schedule within a duration
abbrev pub go_on : Option ℕ → ℕ → List CompositePeriod → Bool
go_on before duration [] = true
go_on before duration (p ∷ ps) =
    is_next before p.start && (nat_lt p.start duration && go_on (Some p.start) duration ps)

abbrev pub is_some_schedule : ℕ → List CompositePeriod → Bool
is_some_schedule duration [] = false
is_some_schedule duration (p ∷ ps) = go_on None duration (p ∷ ps)

abbrev pub is_said_schedule : ℕ → List CompositePeriod → Bool
is_said_schedule duration periods =
    nat_le (length periods) max_composite_periods && is_some_schedule duration periods
