-- There is a session for each pass so far, and room for one for each pass to come.
use Rattle.std.proofs.Common.{◌≡◌, ◌≤◌, length, vec_len, vec_capacity}
use Rattle.server.proofs.connections.begin_all.Given as goal

abbrev pub invariant-loop-pass : goal.invariant-loop-pass
invariant-loop-pass g l = record {
  many : vec_len l.sessions ≡ length l.yielded;
  room : vec_capacity l.fn.room ≤ vec_capacity l.sessions;
}
