-- The entry is that of the step that the message asks for.
use Rattle.std.proofs.Common.{rules}
use Rattle.journal.specs.Line.{sender_state}
use Rattle.session.proofs.NotingLemmas.{prepared}
use Rattle.session.proofs.serving.noting.prepare_message.Goals as goal

pub returns : goal.returns
returns g c =
    prepared c.args.sent.now (sender_state c.args.sender) c.args.step.now c.in-Some.step c.noted_by.result
    c.in-Some-noted_by.noted c.moment.result c.point.result.now c.prepare.result
    c.requires.side c.requires.asks (search rules) (cc (c.noted_by.ensures, c.frame.ensures))
    (search rules) c.moment.ensures c.point.ensures c.prepare.ensures
