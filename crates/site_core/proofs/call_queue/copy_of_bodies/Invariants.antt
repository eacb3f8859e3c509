-- The copies so far, and the bodies that are left, are all the bodies.
use Rattle.std.proofs.Common.{◌≡◌, ◌++◌}
use Rattle.site_core.proofs.call_queue.copy_of_bodies.Given as goal

abbrev pub invariant-loop-body : goal.invariant-loop-body
invariant-loop-body l = l.copies ++ l.body-iterator ≡ l.bodies
