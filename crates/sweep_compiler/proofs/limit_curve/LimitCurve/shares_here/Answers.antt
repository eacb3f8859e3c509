-- The limits in force give the shares.
use Rattle.std.proofs.Common.{◌≡◌, List, ◌∙◌, ap, subst, arith}
use Rattle.std.specs.Result.{IfOk}
use Rattle.meaning.specs.declared.cause.Share.{Share}
use Rattle.meaning.specs.View.{point_state}
use Rattle.sweep_compiler.specs.ByCases.Swept.{shares_now}
use Rattle.sweep_compiler.proofs.ReasonNow.{shares_stay}
use Rattle.sweep_compiler.proofs.limit_curve.LimitCurve.shares_here.Goals as goal

pub returns : goal.returns
returns c =
    let self = c.args.self.now in
    let now = shares_stay (point_state self.view) self.connector self.asked self.last self.at self.at self.bounds.items self.queue self.sum
    c.requires.ready.swept (omega arith) c.requires.within c.requires.ready.ahead c.requires.whole in
    subst (λ (list : List Share). IfOk c.shares_of.result (λ (shares : List Share). shares ≡ list)) (ap shares_now c.deref.ensures.value ∙ now) c.shares_of.ensures
