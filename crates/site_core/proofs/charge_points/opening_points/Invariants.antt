-- The points so far are those of as many entries of the site file.
use Rattle.std.proofs.Common.{◌≡◌, ◌≤◌, ◌-◌, length, map, take}
use Rattle.site_core.specs.ChargePoint.{opening_point}
use Rattle.site_core.proofs.charge_points.opening_points.Given as goal

abbrev pub invariant-loop-point : goal.invariant-loop-point
invariant-loop-point l = record {
  so_far : l.points.items ≡ map opening_point (take (length l.points.items) l.site.points);
  few : length l.points.items ≤ length l.site.points;
}

abbrev pub decreases-loop-point : goal.decreases-loop-point
decreases-loop-point l = length l.site.points - length l.points.items
