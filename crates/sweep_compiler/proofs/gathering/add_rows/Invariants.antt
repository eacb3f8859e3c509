-- The rows so far wait.
use Rattle.sweep_compiler.specs.ByCases.Swept.{AreWaiting}
use Rattle.sweep_compiler.proofs.gathering.add_rows.Given as goal

abbrev pub invariant-loop-row : goal.invariant-loop-row
invariant-loop-row l = AreWaiting l.bounds l.bound l.row l.queue
