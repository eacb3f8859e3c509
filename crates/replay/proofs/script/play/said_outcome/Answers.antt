-- No held message requests a compile.
use Rattle.std.proofs.Common.{sym, ◌∙◌}
use Rattle.replay.proofs.AskedLemmas.{hold_asks_no_compile}
use Rattle.replay.proofs.script.play.said_outcome.Goals as goal

pub hold_outcome-requires : goal.hold_outcome-requires
hold_outcome-requires c = hold_asks_no_compile c.in-Hold.text c.in-Some.asked (sym c.in-Some.is ∙ c.in_ok-asked-in-Hold.ensures.asked)
