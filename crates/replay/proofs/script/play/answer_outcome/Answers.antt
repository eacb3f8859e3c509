-- No message requests a compile.
use Rattle.replay.proofs.AskedLemmas.{asks_no_compile}
use Rattle.replay.proofs.script.play.answer_outcome.Goals as goal

pub asked_outcome-requires : goal.asked_outcome-requires
asked_outcome-requires c = asks_no_compile c.args.text.now c.in_ok-asked.asked c.in_ok-asked.ensures.asked
