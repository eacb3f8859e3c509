use Rattle.std.proofs.Common.{◌≡◌, ◌≤◌, ◌+◌, ◌*◌, ◌++◌, length, vec_capacity, vec_len}
use Rattle.ocppj_frame.specs.ByCases.Mark.{outside, marked_from, marked_text}
use Rattle.ocppj_frame.proofs.mark.mark_bytes.Given as goal

-- the bytes written so far, and the marked form of the rest, for which there is room
abbrev pub invariant-loop-byte : goal.invariant-loop-byte
invariant-loop-byte l = record {
  marked : l.out.items ++ marked_from outside l.left ≡ marked_text l.text;
  room : vec_len l.out + 4 * length l.left ≤ vec_capacity l.out;
}

abbrev pub decreases-loop-byte : goal.decreases-loop-byte
decreases-loop-byte l = length l.left
