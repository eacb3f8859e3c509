-- The pass keeps its counts so far.
use Rattle.session.specs.Serving.{KeepsPass}
use Rattle.session.proofs.serving.installing_again.install_again.Given as goal

abbrev pub invariant-loop-profile : goal.invariant-loop-profile
invariant-loop-profile g l = KeepsPass l.fn.pass l.pass
