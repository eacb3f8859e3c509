-- The entry is of the step that the message asks for.
use Rattle.std.proofs.Common.{IfSome, sym, subst}
use Rattle.texts.specs.SentText.{Sent}
use Rattle.session.specs.Noting.{AsksFor}
use Rattle.session.proofs.ServedLemmas.{same_sent}
use Rattle.session.proofs.serving.installing_again.make_install.Goals as goal

pub prepare_message-requires-clause-asks : goal.prepare_message-requires-clause-asks
prepare_message-requires-clause-asks g c =
    let same = same_sent c.args.operator.now c.args.moment c.side.result c.as_str.result.now
    c.as_str-frame.result.now c.new-sent.result c.new-sent.ensures c.side.ensures
    (cc (c.as_str.ensures, c.point_id.ensures)) in
    subst (λ (text : Sent). IfSome c.step_of_message-step.result (AsksFor text)) (sym same)
    c.step_of_message-step.ensures.asks
