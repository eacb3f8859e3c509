-- The outcome of a point's message, from the outcomes of its parts.
use Rattle.std.proofs.Common.{refl}
use Rattle.replay.proofs.PlayLemmas.{point_made}
use Rattle.replay.proofs.script.play.point_outcome.Goals as goal

pub returns : goal.returns
returns c =
    point_made c.args.player.now c.attach_once.new.self c.answer_outcome.new.player c.send_first.new.self c.args.text.now c.point.result.now c.point-2.result.now c.point-3.result.now
    c.in_ok-outcome.outcome _ c.in_ok-call.call c.point.ensures c.point-2.ensures c.point-3.ensures c.in_ok-attach_once.ensures c.in_ok-outcome.ensures c.in_ok-call.ensures c.in_ok-push_call_line.ensures refl refl
