use Rattle.std.proofs.Common.{◌≡◌, ◌+◌, ◌-◌, ◌≤◌, vec_len}
use Rattle.std.specs.Io.KnownBytes.{Consumes}
use Rattle.replay.proofs.script.input.read_all.Given as goal

abbrev pub invariant-loop-bytes : goal.invariant-loop-bytes
invariant-loop-bytes g l = record {
  taken : Consumes (g.R.Read.remaining l.fn.reader) (g.R.Read.remaining l.reader) l.bytes.items;
  few : vec_len l.bytes ≤ l.limit + 1;
  piece : vec_len l.piece ≡ 16384;
}

abbrev pub decreases-loop-bytes : goal.decreases-loop-bytes
decreases-loop-bytes g l = l.limit + 1 - vec_len l.bytes
