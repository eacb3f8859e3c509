-- The answer to a message whose step was made, and to one whose step can't be noted.
use Rattle.session.proofs.ServedLemmas.{asks_taken, text_served, unmade_if}
use Rattle.session.proofs.serving.served_text.answer_message.Goals as goal

pub returns-in-Err-clause-served : goal.returns-in-Err-clause-served
returns-in-Err-clause-served g c =
    unmade_if _ _ c.args.core.now _ c.args.moment c.args.frame.now c.in-Ok.todo
    c.take_step-step.new.self c.served_unmade.result c.in-Ok.ensures.todo
    c.take_step-step.ensures.taken c.served_unmade.ensures

pub returns-clause-served : goal.returns-clause-served
returns-clause-served g c =
    text_served c.args.core.now _ _ c.args.moment c.side.result c.as_str.result.now c.args.frame.now
    c.new-sent.result c.in-Ok.todo c.take_step-step.new.self c.take_step-step.result
    c.in_ok-outcome.outcome _ c.in-Ok.ensures.todo c.take_step-step.ensures.taken
    c.take_step-step.ensures.step c.new-sent.ensures c.side.ensures
    (cc (c.as_str.ensures, c.point_id.ensures)) c.in_ok-outcome.ensures.outcome
    c.in-Ok-answer.ensures.text

pub prepare_message-requires-clause-asks : goal.prepare_message-requires-clause-asks
prepare_message-requires-clause-asks g c =
    asks_taken c.args.core.now c.args.moment c.side.result c.as_str.result.now c.args.frame.now
    c.new-sent.result c.in-Ok.todo c.take_step-step.result c.in-Ok.ensures.todo
    c.take_step-step.ensures.step c.new-sent.ensures c.side.ensures
    (cc (c.as_str.ensures, c.point_id.ensures))
