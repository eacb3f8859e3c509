-- The step is the one that the message asks for.
use Rattle.std.proofs.Common.{Option, IfSome, sym, subst}
use Rattle.site_core.specs.declared.step.Step.{Step}
use Rattle.session.specs.Noting.{AsksFor}
use Rattle.session.specs.Session.{sent_by}
use Rattle.session.proofs.AskedLemmas.{asks_for}
use Rattle.session.proofs.serving.installing_again.step_of_message.Goals as goal

pub returns-in-Ok-clause-asks : goal.returns-in-Ok-clause-asks
returns-in-Ok-clause-asks g c =
    let text = sent_by c.args.operator.now c.args.moment c.args.frame.now in
    subst (λ (step : Option Step). IfSome step (AsksFor text)) (sym c.take_step.ensures.step)
    (asks_for c.args.operator.now c.args.moment c.args.frame.now c.in-Ok.todo c.in-Ok.ensures.todo)
