-- None of the rows so far has a limit.
use Rattle.std.proofs.Common.{◌≡◌, drop}
use Rattle.sweep_compiler.specs.ByCases.Running.{first_profile_limit}
use Rattle.sweep_compiler.proofs.bounded.first_profile_limit.Given as goal

abbrev pub invariant-loop-place : goal.invariant-loop-place
invariant-loop-place l = first_profile_limit l.runs ≡ first_profile_limit (drop l.place l.runs)
