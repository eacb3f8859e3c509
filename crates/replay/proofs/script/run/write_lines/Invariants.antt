-- The bytes written so far are the output of the lines so far, and the other lines follow from
-- there.
use Rattle.std.proofs.Common.{◌≡◌, ◌≤◌, List, ◌+◌, length}
use Rattle.std.specs.List.{fold}
use Rattle.std.specs.Io.KnownBytes.{Appends}
use Rattle.replay.specs.Lines.{script_lines}
use Rattle.replay.specs.PrintedLine.{PrintedLine, printed_texts}
use Rattle.replay.specs.Run.{played, played_more}
use Rattle.replay.proofs.script.run.write_lines.Given as goal

abbrev pub invariant-loop-rest : goal.invariant-loop-rest
invariant-loop-rest g l = record {
  played : (done : List PrintedLine) × Appends (g.W.Write.contents l.fn.writer) (g.W.Write.contents l.writer) (printed_texts done)
      × (fold played_more (record { number = l.number; faults = l.script_faults; lines = done; state = l.player }) (script_lines l.rest)
      ≡ played l.fn.site l.script);
  few : (l.script_faults + 1 ≤ l.number) × (l.number + length l.rest ≤ length l.script + 1);
}

abbrev pub decreases-loop-rest : goal.decreases-loop-rest
decreases-loop-rest g l = length l.rest
