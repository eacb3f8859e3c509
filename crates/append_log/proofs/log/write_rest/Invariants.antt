-- The bytes written so far, and those that a crash leaves meanwhile.
use Rattle.std.proofs.Common.{◌≡◌, ◌-◌, ◌≤◌, false, length}
use Rattle.append_log.specs.Contents.{MayLeave}
use Rattle.append_log.specs.History.{AtEachMoment}
use Rattle.append_log.specs.Writing.{with_first}
use Rattle.append_log.proofs.log.write_rest.Given as goal

abbrev pub invariant-loop-in_file : goal.invariant-loop-in_file
invariant-loop-in_file g l =
    let history = g.F.AppendedFile.history in
    let was = (history l.fn.file).now in
    record {
      within : l.in_file ≤ length l.bytes;
      refusals : (history l.file).refusals ≡ (history l.fn.file).refusals;
      now : (history l.file).now ≡ with_first was l.bytes l.in_file false;
      moments : AtEachMoment (MayLeave (with_first was l.bytes (length l.bytes) false)) (history l.fn.file) (history l.file);
    }

abbrev pub decreases-loop-in_file : goal.decreases-loop-in_file
decreases-loop-in_file g l = length l.bytes - l.in_file
