-- One more bound has its share.
use Rattle.std.proofs.Common.{◌∙◌, ap, arith}
use Rattle.sweep_compiler.specs.ByCases.Running.{share_now}
use Rattle.sweep_compiler.proofs.Starting.{share_pushed}
use Rattle.sweep_compiler.proofs.limit_curve.shares_of.Goals as goal

pub loop-index-preserved : goal.loop-index-preserved
loop-index-preserved c =
    let above = c.loop-index.auto.index in
    share_pushed c.args.bounds.now c.loop-index.index c.index-bounds-index.result c.loop-index.shares.items c.push.new.self.items c.share.result
    (omega (arith, above)) c.loop-index-test.true c.loop-index.invariant (c.share.ensures ∙ ap share_now c.index-bounds-index.is) c.in_ok-push.ensures.items
