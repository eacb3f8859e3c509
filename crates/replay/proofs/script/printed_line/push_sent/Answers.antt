-- The parts of a line, one after another.
use Rattle.std.proofs.Common.{codes}
use Rattle.messages.specs.CallText.{call_text}
use Rattle.replay.proofs.PlayLemmas.{five}
use Rattle.replay.proofs.script.printed_line.push_sent.Goals as goal

pub returns : goal.returns
returns c =
    five _ (codes "* ") c.args.point.now (codes " ") (call_text c.args.call.now) (codes "\n") _ _ _ _ _
    c.in_ok-push_str.ensures.bytes c.in_ok-push_str-2.ensures.bytes c.in_ok-push_str-3.ensures.bytes
    c.in_ok-push_call.ensures c.in_ok-push_str-4.ensures.bytes
