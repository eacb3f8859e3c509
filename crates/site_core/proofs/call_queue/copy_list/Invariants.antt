-- The copies so far, and the bodies that are left, are those before and all the bodies.
use Rattle.std.proofs.Common.{◌≡◌, ◌++◌}
use Rattle.site_core.proofs.call_queue.copy_list.Given as goal

abbrev pub invariant-loop-body : goal.invariant-loop-body
invariant-loop-body l = l.copies.items ++ l.body-iterator ≡ l.initial.copies.items ++ l.bodies
