-- The rows of the bounds so far wait.
use Rattle.sweep_compiler.specs.ByCases.Swept.{AreWaiting}
use Rattle.sweep_compiler.proofs.gathering.queue_of.Given as goal

abbrev pub invariant-loop-bound : goal.invariant-loop-bound
invariant-loop-bound l = AreWaiting l.bounds l.bound 0 l.queue
