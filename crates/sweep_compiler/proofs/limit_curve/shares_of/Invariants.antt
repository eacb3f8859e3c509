-- The shares of the bounds so far.
use Rattle.std.proofs.Common.{◌≡◌, take}
use Rattle.sweep_compiler.specs.ByCases.Swept.{shares_now}
use Rattle.sweep_compiler.proofs.limit_curve.shares_of.Given as goal

abbrev pub invariant-loop-index : goal.invariant-loop-index
invariant-loop-index l = l.shares.items ≡ shares_now (take l.index l.bounds)
