-- The periods that a point may report for a schedule (OCPP 1.6, 5.7 and 6,
-- GetCompositeSchedule.conf).
use Rattle.std.specs.Prelude.{ℕ, ◌≤◌, List, length}
use Rattle.meaning.specs.declared.composite.CompositePeriod.{CompositePeriod}
use Rattle.meaning.specs.Limits.{max_composite_periods}
use Rattle.meaning.specs.Composite.{IsSchedule}

-- Reported periods make a schedule over a number of seconds if they begin at 0, in strictly
-- increasing order, within its duration, and are at most as many as an answer may have.
pub record IsSaidSchedule (duration : ℕ) (periods : List CompositePeriod) : Type 0 where
  pub schedule : IsSchedule duration periods
  pub few : length periods ≤ max_composite_periods
