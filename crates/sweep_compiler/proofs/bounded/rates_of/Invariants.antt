-- The rows from `place` on have their limits in force.
use Rattle.std.proofs.Common.{◌≤◌, length, drop}
use Rattle.sweep_compiler.specs.ByCases.Running.{AreInForce}
use Rattle.sweep_compiler.proofs.bounded.rates_of.Given as goal

abbrev pub invariant-loop-place : goal.invariant-loop-place
invariant-loop-place l = (l.place ≤ length l.runs) × AreInForce (drop l.place l.runs) l.rates

abbrev pub decreases-loop-place : goal.decreases-loop-place
decreases-loop-place l = l.place
