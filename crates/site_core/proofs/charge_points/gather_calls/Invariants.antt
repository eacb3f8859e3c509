-- The points are as they were.
use Rattle.std.proofs.Common.{◌≡◌}
use Rattle.site_core.proofs.charge_points.gather_calls.Given as goal

abbrev pub invariant-loop-point : goal.invariant-loop-point
invariant-loop-point l = l.point-items ≡ l.fn.points.items
