-- An explained schedule: intervals of a request, each with one limit for one reason (OCPP 1.6, 3.13
-- and 5.7).
use Rattle.std.specs.Prelude.{◌≡◌, ◌≢◌, ℕ, ◌<◌, ◌≤◌, List, [], ◌∷◌, ◌++◌, Option, Some, None}
use Rattle.std.specs.List.{AllByRecursion}
use Rattle.meaning.specs.declared.composite.CompositePeriod.{CompositePeriod}
use Rattle.meaning.specs.ByCases.PlainCompiler.{period_added}
use Rattle.meaning.specs.View.{PointState}
use Rattle.meaning.specs.Limit.{limit_asked}
use Rattle.meaning.specs.Cause.{reason_asked}
use Rattle.sweep_compiler.specs.declared.interval.Interval.{Interval}

-- intervals over a number of seconds
pub record ExplainedSchedule : Type 0 where
  pub duration : ℕ
  pub intervals : List Interval

-- intervals adjoin from one second to another: the first begins at the one, each later one at the
-- end of the interval before it, and the last ends at the other
abbrev pub Adjoin : ℕ → ℕ → List Interval → Type 0
Adjoin from end [] = from ≡ end
Adjoin from end (interval ∷ later) =
    (interval.start ≡ from) × (interval.start < interval.end) × Adjoin interval.end end later

-- neighbours differ in their limit, their cause or their shares
abbrev pub Differ : List Interval → Type 0
Differ [] = Unit {0}
Differ (interval ∷ []) = Unit {0}
Differ (interval ∷ (next ∷ later)) = (interval.reason ≢ next.reason) × Differ (next ∷ later)

-- the limit of an interval is the limit at each of its seconds, and its reason is the reason there,
-- in a request for a connector from a start on
pub record IsIntervalOf (state : PointState) (connector start : ℕ) (interval : Interval)
    : Type 0 where
  pub limit :
      (second : ℕ) → interval.start ≤ second → second < interval.end
      → interval.reason.limit ≡ limit_asked state connector start second
  pub reason :
      (second : ℕ) → interval.start ≤ second → second < interval.end
      → interval.reason ≡ reason_asked state connector start second

-- the explanation of a request for a connector from a start on for a number of seconds
pub record IsExplanation (state : PointState) (connector start duration : ℕ)
    (explained : ExplainedSchedule) : Type 0 where
  pub lasts : explained.duration ≡ duration
  pub adjoin : Adjoin 0 duration explained.intervals
  pub each : AllByRecursion (IsIntervalOf state connector start) explained.intervals
  pub differ : Differ explained.intervals

-- the periods of intervals after a limit, if there is one: an interval with the limit of the one
-- before it begins none
abbrev pub periods_behind : Option ℕ → List Interval → List CompositePeriod
periods_behind before [] = []
periods_behind before (interval ∷ later) =
    period_added before (record { start = interval.start; limit = interval.reason.limit })
    ++ periods_behind (Some interval.reason.limit) later

-- the periods of intervals: neighbours of equal limit are joined
abbrev pub joined : List Interval → List CompositePeriod
joined intervals = periods_behind None intervals
