-- The lines so far were restored.
use Rattle.std.proofs.Common.{◌+◌, ◌≤◌, length}
use Rattle.journal.specs.Restore.{KeepsPass}
use Rattle.journal.proofs.JournalLemmas.{IsReadSoFar}
use Rattle.journal.proofs.restored.restore.Given as goal

abbrev pub invariant-loop-line : goal.invariant-loop-line
invariant-loop-line g l = record {
  so_far : IsReadSoFar l.fn.book.present l.text l.rest l.number l.book.present;
  few : l.number + length l.rest ≤ length l.text + 2;
  pass : KeepsPass l.fn.pass l.pass;
}

abbrev pub decreases-loop-line : goal.decreases-loop-line
decreases-loop-line g l = length l.rest
