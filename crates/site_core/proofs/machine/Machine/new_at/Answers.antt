-- Each point of the site is kept, and no request is.
use Rattle.std.proofs.Common.{lit≤}
use Rattle.site_core.proofs.PointLemmas.{opening_points_fit}
use Rattle.site_core.proofs.machine.Machine.new_at.Goals as goal

pub invariant_of-result : goal.invariant_of-result
invariant_of-result c = record {
  points = rw (c.in_ok-points.ensures, c.in_ok-site.ensures.ok) (opening_points_fit c.args.site.points);
  numbers = c.requires;
  few = rw c.new-2.ensures.items (lit≤ tt);
}
