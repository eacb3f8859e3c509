-- The session's counters so far are no less than before its first message.
use Rattle.session.specs.Serving.{KeepsPass}
use Rattle.server.proofs.attending.run_session.Given as goal

abbrev pub invariant-loop-message : goal.invariant-loop-message
invariant-loop-message g l = KeepsPass l.initial.pass l.pass
