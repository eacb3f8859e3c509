-- The sweep is within the request.
use Rattle.std.proofs.Common.{◌≡◌, ◌+◌, ◌-◌, ◌∙◌, ap, arith}
use Rattle.meaning.specs.View.{point_state}
use Rattle.meaning.specs.Limit.{limit}
use Rattle.sweep_compiler.proofs.limit_curve.LimitCurveCurve.limit.Goals as goal

pub limit_of-requires : goal.limit_of-requires
limit_of-requires c =
    let self = c.args.self.now in
    let from = c.requires.ready.swept.from in
    let inside = c.requires.within in
    record { room = c.requires.room; ready = c.requires.ready; within = omega (arith, from, inside) }

pub returns-clause-limit : goal.returns-clause-limit
returns-clause-limit c =
    let self = c.args.self.now in
    let from = c.requires.ready.swept.from in
    let here : self.at ≡ self.asked + (self.at - self.asked) = omega (arith, from) in
    c.limit_of.ensures.limit ∙ ap (limit (point_state self.view) self.connector self.asked) here
