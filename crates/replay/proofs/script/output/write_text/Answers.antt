-- The bytes that a write took come after those written before it.
use Rattle.std.proofs.Common.{length, length-drop, drop, arith, ◌∙◌, ap}
use Rattle.std.proofs.KnownBytes.{Appends-kept}
use Rattle.replay.proofs.WriteLemmas.{prefix_more}
use Rattle.replay.proofs.script.output.write_text.Goals as goal
use Rattle.replay.proofs.script.output.write_text.Goals.{in-Ok, in-Err}

pub loop-preserved : goal.loop-preserved
loop-preserved g c =
    let rest = c.split_at.ensures.back ∙ ap (drop c.loop.done) c.loop.invariant.bytes in
    elim c.match-write.branch [
      | in-Ok w ↦ record {
        written = prefix_more _ _ _ _ _ c.loop.done w.in-Ok.count _ c.loop.invariant.written rest w.in-Ok.ensures.bytes w.done-is;
        inside = omega (arith, w.in-Ok.ensures.bound, w.done-is, ap length rest, length-drop c.loop.done c.args.text.now, c.loop.invariant.inside);
        bytes = c.loop.invariant.bytes;
      }
      | in-Err w ↦ record {
        written = Appends-kept _ _ _ _ (rw w.done-is c.loop.invariant.written) w.in-Err.ensures.bytes;
        inside = omega (arith, w.done-is, c.loop.invariant.inside);
        bytes = c.loop.invariant.bytes;
      }
    ]
