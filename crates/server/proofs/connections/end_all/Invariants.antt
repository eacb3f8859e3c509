-- There is a pass for each session so far, and room for one for each session to come.
use Rattle.std.proofs.Common.{◌≡◌, ◌≤◌, length, vec_len, vec_capacity}
use Rattle.server.proofs.connections.end_all.Given as goal

abbrev pub invariant-loop-session : goal.invariant-loop-session
invariant-loop-session g l = record {
  many : vec_len l.ended ≡ length l.yielded;
  room : vec_capacity l.fn.room ≤ vec_capacity l.ended;
}
