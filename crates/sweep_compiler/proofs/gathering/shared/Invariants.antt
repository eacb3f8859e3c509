-- The sum of the bounds so far.
use Rattle.std.proofs.Common.{◌≡◌, take}
use Rattle.sweep_compiler.specs.ByCases.Swept.{shared_now}
use Rattle.sweep_compiler.proofs.gathering.shared.Given as goal

abbrev pub invariant-loop-index : goal.invariant-loop-index
invariant-loop-index l = l.sum ≡ shared_now (take l.index l.bounds)
