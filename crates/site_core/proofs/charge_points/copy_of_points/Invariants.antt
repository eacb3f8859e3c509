-- The copies so far are those of the points so far.
use Rattle.std.proofs.Common.{◌≡◌, take}
use Rattle.site_core.proofs.charge_points.copy_of_points.Given as goal

abbrev pub invariant-loop-point : goal.invariant-loop-point
invariant-loop-point l = l.copies.items ≡ take l.point-index l.points
