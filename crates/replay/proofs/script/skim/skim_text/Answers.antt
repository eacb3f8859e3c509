-- No message requests a compile.
use Rattle.replay.proofs.AskedLemmas.{asks_no_compile}
use Rattle.replay.proofs.script.skim.skim_text.Goals as goal

pub skim_asked-requires : goal.skim_asked-requires
skim_asked-requires c = asks_no_compile c.args.text.now c.in_ok-asked-in-Operator.asked c.in_ok-asked-in-Operator.ensures.asked
