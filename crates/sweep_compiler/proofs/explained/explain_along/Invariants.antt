-- The intervals adjoin up to the open one, whose reason holds from its start up to the second of
-- the sweep. The turns so far are at most one for the first second and one for each place up to
-- here.
use Rattle.std.proofs.Common.{◌≡◌, ℕ, ◌+◌, ◌-◌, ◌≤◌, [], ◌∷◌, ◌++◌, length}
use Rattle.std.specs.List.{AllByRecursion}
use Rattle.meaning.specs.View.{point_state}
use Rattle.meaning.specs.Cause.{reason_asked}
use Rattle.sweep_compiler.specs.Explained.{Adjoin, Differ, IsIntervalOf}
use Rattle.sweep_compiler.specs.Places.{is_second_asked}
use Rattle.sweep_compiler.specs.ByCases.Swept.{IsReadyCurve, IsOfOneAsk}
use Rattle.sweep_compiler.proofs.Explaining.{with_reason, spent_at}
use Rattle.sweep_compiler.proofs.explained.explain_along.Given as goal

abbrev pub invariant-loop-reason : goal.invariant-loop-reason
invariant-loop-reason l = record {
  same : IsOfOneAsk l.fn.curve l.curve;
  ready : IsReadyCurve l.curve;
  inside : l.curve.at ≤ l.curve.last;
  begun : l.start ≤ l.curve.at - l.fn.curve.asked;
  adjoin : Adjoin 0 l.start l.intervals.items;
  so_far : AllByRecursion (IsIntervalOf (point_state l.fn.curve.view) l.fn.curve.connector l.fn.curve.asked) l.intervals.items;
  open_one : (k : ℕ) → l.start ≤ k → k ≤ l.curve.at - l.fn.curve.asked → l.reason ≡ reason_asked (point_state l.fn.curve.view) l.fn.curve.connector l.fn.curve.asked k;
  differ : Differ (l.intervals.items ++ with_reason l.reason ∷ []);
  turns : l.turns ≤ l.fn.turns + spent_at (is_second_asked (point_state l.fn.curve.view) l.fn.curve.connector l.fn.curve.asked) (l.curve.at - l.fn.curve.asked);
  each : l.fn.turns + length l.intervals.items + 1 ≤ l.turns;
}

abbrev pub decreases-loop-reason : goal.decreases-loop-reason
decreases-loop-reason l = l.duration - (l.curve.at - l.fn.curve.asked)
