-- The bytes behind the end have no line feed.
use Rattle.std.proofs.Common.{◌≡◌, ◌≤◌, length, take}
use Rattle.append_log.specs.Lines.{whole_lines}
use Rattle.append_log.proofs.line_ends.whole_length.Given as goal

abbrev pub invariant-loop-end : goal.invariant-loop-end
invariant-loop-end l = record { within : l.end ≤ length l.bytes; same : whole_lines (take l.end l.bytes) ≡ whole_lines l.bytes }

abbrev pub decreases-loop-end : goal.decreases-loop-end
decreases-loop-end l = l.end
