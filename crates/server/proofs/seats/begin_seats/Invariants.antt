-- There are no more seats so far than passes.
use Rattle.std.proofs.Common.{◌≤◌, length}
use Rattle.server.proofs.seats.begin_seats.Given as goal

abbrev pub invariant-loop-pass : goal.invariant-loop-pass
invariant-loop-pass g l = l.begun ≤ length l.yielded
