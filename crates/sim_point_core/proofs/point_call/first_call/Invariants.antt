-- The steps so far make no call.
use Rattle.std.proofs.Common.{◌≡◌, drop}
use Rattle.sim_point_core.specs.PointCall.{first_call}
use Rattle.sim_point_core.proofs.point_call.first_call.Given as goal

abbrev pub invariant-loop-place : goal.invariant-loop-place
invariant-loop-place l =
    first_call l.book l.now l.steps ≡ first_call l.book l.now (drop l.place l.steps)
