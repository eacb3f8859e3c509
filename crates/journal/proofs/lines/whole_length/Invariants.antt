-- There is no line feed after the end that was found so far.
use Rattle.std.proofs.Common.{◌≤◌, drop, length}
use Rattle.journal.specs.Line.{HasNoLineFeed}
use Rattle.journal.proofs.lines.whole_length.Given as goal

abbrev pub invariant-loop-end : goal.invariant-loop-end
invariant-loop-end l = (l.end ≤ length l.text) × HasNoLineFeed (drop l.end l.text)

abbrev pub decreases-loop-end : goal.decreases-loop-end
decreases-loop-end l = l.end
