-- The limits in force give the bound.
use Rattle.std.proofs.Common.{◌==◌, ◌≡◌, true, false, get_or, ◌∙◌, ap, arith}
use Rattle.std.proofs.lemmas.Bool.{eq-eqb}
use Rattle.std.proofs.lemmas.Bool.Decides.{nat_tests}
use Rattle.meaning.specs.View.{point_state}
use Rattle.meaning.specs.Cause.{Bound, bound_of}
use Rattle.meaning.specs.declared.cause.Cause.TheVariants.{Sum}
use Rattle.sweep_compiler.specs.ByCases.Running.{RunningBound, own_bound_now, below_now}
use Rattle.sweep_compiler.proofs.ReasonNow.{bound_stays, whole_read, connector_read}
use Rattle.sweep_compiler.proofs.limit_curve.LimitCurve.bound_here.Goals as goal

pub returns-then-self-eq0 : goal.returns-then-self-eq0
returns-then-self-eq0 c =
    let self = c.args.self.now in
    let state = point_state self.view in
    let swept = c.requires.ready.swept in
    let whole : (self.connector == 0) ≡ true = eq-eqb self.connector 0 c.if-self-eq0.true in
    let now = bound_stays state self.connector self.asked self.last self.at self.at self.bounds.items self.queue self.sum swept (omega arith) c.requires.within c.requires.ready.ahead in
    c.or_sum.ensures
    ∙ (ap (λ (point : RunningBound). below_now point (bound_of Sum self.sum)) c.index-point.ensures
    ∙ (whole_read state self.connector self.asked self.bounds.items c.index-point.result.now self.sum swept.gathered whole ∙ now))

pub returns-else-self-eq0 : goal.returns-else-self-eq0
returns-else-self-eq0 c =
    let self = c.args.self.now in
    let state = point_state self.view in
    let swept = c.requires.ready.swept in
    let apart = c.if-self-eq0.false in
    let one : (self.connector == 0) ≡ false = grind (arith, nat_tests, apart) in
    let now = bound_stays state self.connector self.asked self.last self.at self.at self.bounds.items self.queue self.sum swept (omega arith) c.requires.within c.requires.ready.ahead in
    c.or_below.ensures
    ∙ (ap (λ (other : Bound). below_now c.index-point.result.now other) (c.own_bound.ensures ∙ ap own_bound_now c.index.ensures)
    ∙ (ap (λ (point : RunningBound). below_now point (own_bound_now (get_or self.bounds.items 1 c.index.result.now))) c.index-point.ensures
    ∙ (connector_read state self.connector self.asked self.bounds.items c.index-point.result.now c.index.result.now self.sum swept.gathered one ∙ now)))
