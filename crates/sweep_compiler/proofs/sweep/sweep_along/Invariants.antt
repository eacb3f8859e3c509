-- The periods before a second are the exact ones. The turns so far are at most one for the first
-- second and one for each place before this one.
use Rattle.std.proofs.Common.{◌≡◌, ◌+◌, ◌-◌, ◌<◌, ◌≤◌, true, length}
use Rattle.meaning.specs.Limits.{max_composite_periods}
use Rattle.meaning.specs.ByCases.Exact.{exact_periods}
use Rattle.meaning.specs.Theory.PlainCompiler.{limit_before}
use Rattle.sweep_compiler.proofs.Sweeping.{spent}
use Rattle.sweep_compiler.proofs.sweep.sweep_along.Given as goal

abbrev pub invariant-loop-periods : goal.invariant-loop-periods
invariant-loop-periods g l = record {
  limits : g.C.Curve.limits l.curve ≡ g.C.Curve.limits l.fn.curve;
  places : g.C.Curve.is_place l.curve ≡ g.C.Curve.is_place l.fn.curve;
  whole : g.C.Curve.end l.curve ≡ l.duration;
  stands : g.C.Curve.here l.curve ≡ l.second;
  ready : g.C.Curve.IsReady l.curve;
  inside : l.second < l.duration;
  here : 0 < l.second → g.C.Curve.is_place l.fn.curve l.second ≡ true;
  so_far : l.periods.items ≡ exact_periods (g.C.Curve.limits l.fn.curve) l.second;
  before : l.before ≡ limit_before (g.C.Curve.limits l.fn.curve) l.second;
  few : length l.periods.items ≤ max_composite_periods;
  turns : l.turns ≤ l.fn.turns + spent (g.C.Curve.is_place l.fn.curve) l.second;
  each : l.fn.turns + length l.periods.items ≤ l.turns;
}

abbrev pub decreases-loop-periods : goal.decreases-loop-periods
decreases-loop-periods g l = l.duration - l.second
