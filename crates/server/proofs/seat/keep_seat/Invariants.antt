-- The seat's counters so far are no less than before its first connection.
use Rattle.session.specs.Serving.{KeepsPass}
use Rattle.server.proofs.seat.keep_seat.Given as goal

abbrev pub invariant-loop-connection : goal.invariant-loop-connection
invariant-loop-connection g l = KeepsPass l.initial.pass l.pass
