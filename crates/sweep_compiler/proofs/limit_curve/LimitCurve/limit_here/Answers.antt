-- The limits in force give the limit.
use Rattle.std.proofs.Common.{ℕ, min, ◌∙◌, ap, arith}
use Rattle.meaning.specs.View.{point_state}
use Rattle.sweep_compiler.specs.ByCases.Running.{RunningBound, bound_now}
use Rattle.sweep_compiler.proofs.LimitNow.{limit_stays, first_now}
use Rattle.sweep_compiler.proofs.limit_curve.LimitCurve.limit_here.Goals as goal

pub returns : goal.returns
returns c =
    let self = c.args.self.now in
    let state = point_state self.view in
    let now = limit_stays state self.connector self.asked self.last self.at self.at self.bounds.items self.queue self.sum
    c.requires.ready.swept (omega arith) c.requires.within c.requires.ready.ahead in
    let point = c.from.ensures ∙ (c.limit-point.ensures ∙ ap (λ (bound : RunningBound). bound_now bound) c.index.ensures) in
    c.min.ensures
    ∙ (ap (λ (n : ℕ). min n self.sum) point
    ∙ (first_now state self.connector self.asked self.bounds.items c.index.result.now self.sum c.requires.ready.swept.gathered ∙ now))
