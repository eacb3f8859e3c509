-- One more point is kept.
use Rattle.std.proofs.Common.{◌≡◌, ◌++◌, ◌∷◌, [], length, ap, ◌∙◌, arith}
use Rattle.site_rules.specs.Site.{point_entry}
use Rattle.site_core.specs.ChargePoint.{ChargePointState, opening_point}
use Rattle.site_core.proofs.PointLemmas.{one_more}
use Rattle.site_core.proofs.charge_points.opening_points.Goals as goal

pub loop-point-preserved : goal.loop-point-preserved
loop-point-preserved c =
    let point = point_entry c.in-Some.point in
    let kept : c.in_ok-new.field-0 ≡ opening_point point = c.in_ok-new.ensures in
    let count : c.len-in-loop-point.result ≡ length c.loop-point.points.items = omega (arith, c.len-in-loop-point.ensures, c.loop-point.points.ok.0) in
    let more : c.push.new.self.items ≡ c.loop-point.points.items ++ opening_point point ∷ [] =
    c.in_ok-push.ensures.items ∙ ap (λ (p : ChargePointState). c.loop-point.points.items ++ p ∷ []) kept in
    let grown = one_more opening_point c.args.site.now.points c.loop-point.points.items c.push.new.self.items c.len-in-loop-point.result point c.loop-point.invariant.so_far count c.in-Some.ensures.point more in
    record { so_far = grown.0; few = grown.1 }
