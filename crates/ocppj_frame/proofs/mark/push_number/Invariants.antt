use Rattle.std.proofs.Common.{◌≡◌, ◌≤◌, ◌+◌, ◌++◌, length, vec_capacity, vec_len}
use Rattle.ocppj_frame.specs.ByCases.Mark.{in_number, marked_from}
use Rattle.ocppj_frame.proofs.mark.push_number.Given as goal

-- the bytes written so far, and the marked form of the rest
abbrev pub invariant-loop-byte : goal.invariant-loop-byte
invariant-loop-byte l = record {
  marked : l.out.items ++ marked_from in_number l.left ≡ l.fn.out.items ++ marked_from in_number l.fn.text;
  room : vec_len l.out + length l.left ≡ vec_len l.fn.out + length l.fn.text;
  capacity : vec_capacity l.out ≡ vec_capacity l.fn.out;
  shorter : length l.left ≤ length l.fn.text;
}

abbrev pub decreases-loop-byte : goal.decreases-loop-byte
decreases-loop-byte l = length l.left
