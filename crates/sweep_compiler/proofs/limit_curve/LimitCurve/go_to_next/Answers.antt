-- The limit and its reason are constant up to the soonest place, or to the end.
use Rattle.std.proofs.Common.{◌≡◌, ℕ, ◌+◌, ◌-◌, ◌<◌, ◌∙◌, Option, Some, subst, arith}
use Rattle.meaning.specs.View.{point_state}
use Rattle.meaning.specs.Limit.{limit, limit_asked}
use Rattle.meaning.specs.Cause.{reason, reason_asked}
use Rattle.sweep_compiler.specs.Places.{is_second_asked}
use Rattle.sweep_compiler.specs.ByCases.Curve.{LeadsOn}
use Rattle.sweep_compiler.specs.ByCases.Queue.{IsSoonest}
use Rattle.sweep_compiler.specs.ByCases.Swept.{limit_now}
use Rattle.sweep_compiler.proofs.LeadingOn.{leads_some, leads_none}
use Rattle.sweep_compiler.proofs.LimitNow.{limit_stays}
use Rattle.sweep_compiler.proofs.ReasonNow.{reason_now, reason_stays}
use Rattle.sweep_compiler.proofs.limit_curve.LimitCurve.go_to_next.Goals as goal

pub returns-in_default-clause-limits : goal.returns-in_default-clause-limits
returns-in_default-clause-limits c =
    let self = c.args.self.now in
    let state = point_state self.view in
    let none = subst (λ (soonest : Option ℕ). IsSoonest self.queue soonest) c.in_default.is c.soonest.ensures in
    let from = c.requires.ready.swept.from in
    let inside = c.requires.within in
    let within : self.at - self.asked < self.last + 1 - self.asked = omega (arith, from, inside) in
    leads_none (limit_now self.bounds.items self.sum) (limit state self.connector self.asked) state self.connector self.asked self.last self.at self.bounds.items self.queue self.sum c.requires.ready.swept none within
    (λ k. limit_stays state self.connector self.asked self.last self.at k self.bounds.items self.queue self.sum c.requires.ready.swept)

pub returns-in_default-clause-reasons : goal.returns-in_default-clause-reasons
returns-in_default-clause-reasons c =
    let self = c.args.self.now in
    let state = point_state self.view in
    let none = subst (λ (soonest : Option ℕ). IsSoonest self.queue soonest) c.in_default.is c.soonest.ensures in
    let from = c.requires.ready.swept.from in
    let inside = c.requires.within in
    let within : self.at - self.asked < self.last + 1 - self.asked = omega (arith, from, inside) in
    leads_none (reason_now self.connector self.bounds.items self.sum) (reason state self.connector self.asked) state self.connector self.asked self.last self.at self.bounds.items self.queue self.sum c.requires.ready.swept none within
    (λ k. reason_stays state self.connector self.asked self.last self.at k self.bounds.items self.queue self.sum c.requires.ready.swept)

pub overflow_cast-result : goal.overflow_cast-result
overflow_cast-result c =
    let self = c.args.self.now in
    let soonest = subst (λ (soonest : Option ℕ). IsSoonest self.queue soonest) c.in-Some.is c.soonest.ensures in
    let within = (c.requires.ready.swept.each soonest.item soonest.waits).within in
    let is = soonest.at in
    let short = c.requires.ready.short in
    let at = c.seconds.ensures.value ∙ c.in_ok-go_to.ensures.at in
    let asked = c.seconds-2.ensures.value ∙ c.in_ok-go_to.ensures.same.asked in
    omega (arith, within, is, short, at, asked)

pub returns-clause-limits : goal.returns-clause-limits
returns-clause-limits c =
    let self = c.args.self.now in
    let state = point_state self.view in
    let soonest = subst (λ (soonest : Option ℕ). IsSoonest self.queue soonest) c.in-Some.is c.soonest.ensures in
    let at = c.seconds.ensures.value ∙ c.in_ok-go_to.ensures.at in
    let asked = c.seconds-2.ensures.value ∙ c.in_ok-go_to.ensures.same.asked in
    let second : c.in-Some.next - self.asked ≡ c.seconds.result - c.seconds-2.result = omega (arith, at, asked) in
    subst (λ (n : ℕ). LeadsOn (limit_asked state self.connector self.asked) (is_second_asked state self.connector self.asked) (self.last + 1 - self.asked) (self.at - self.asked) (Some n)) second
    (leads_some (limit_now self.bounds.items self.sum) (limit state self.connector self.asked) state self.connector self.asked self.last self.at c.in-Some.next self.bounds.items self.queue self.sum c.requires.ready.swept c.requires.ready.ahead soonest
    (λ k. limit_stays state self.connector self.asked self.last self.at k self.bounds.items self.queue self.sum c.requires.ready.swept))

pub returns-clause-reasons : goal.returns-clause-reasons
returns-clause-reasons c =
    let self = c.args.self.now in
    let state = point_state self.view in
    let soonest = subst (λ (soonest : Option ℕ). IsSoonest self.queue soonest) c.in-Some.is c.soonest.ensures in
    let at = c.seconds.ensures.value ∙ c.in_ok-go_to.ensures.at in
    let asked = c.seconds-2.ensures.value ∙ c.in_ok-go_to.ensures.same.asked in
    let second : c.in-Some.next - self.asked ≡ c.seconds.result - c.seconds-2.result = omega (arith, at, asked) in
    subst (λ (n : ℕ). LeadsOn (reason_asked state self.connector self.asked) (is_second_asked state self.connector self.asked) (self.last + 1 - self.asked) (self.at - self.asked) (Some n)) second
    (leads_some (reason_now self.connector self.bounds.items self.sum) (reason state self.connector self.asked) state self.connector self.asked self.last self.at c.in-Some.next self.bounds.items self.queue self.sum c.requires.ready.swept c.requires.ready.ahead soonest
    (λ k. reason_stays state self.connector self.asked self.last self.at k self.bounds.items self.queue self.sum c.requires.ready.swept))
