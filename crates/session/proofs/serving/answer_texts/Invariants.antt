-- The session's counters so far are no less than before its first message.
use Rattle.session.specs.Serving.{KeepsPass}
use Rattle.session.proofs.serving.answer_texts.Given as goal

abbrev pub invariant-loop-text : goal.invariant-loop-text
invariant-loop-text g l = KeepsPass l.initial.pass l.pass
