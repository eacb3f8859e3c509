-- A message requests a step of a CALL, or an answer without a schedule.
use Rattle.std.proofs.Common.{Ok}
use Rattle.ocppj_frame.specs.Frame.{message_in}
use Rattle.texts.specs.Theory.Asked.{if_asked}
use Rattle.texts.proofs.asked.asked_of.Goals as goal

pub returns-in-Ok-clause-by_call : goal.returns-in-Ok-clause-by_call
returns-in-Ok-clause-by_call c =
    if_asked c.args.text.now (Ok (message_in c.in-Ok.frame)) c.asked_of_message.result
    c.asked_of_message.ensures.asked
