-- The copies so far are those of the bodies so far, behind the ones before.
use Rattle.std.proofs.Common.{◌≡◌, ◌++◌, take}
use Rattle.site_core.proofs.call_queue.copy_slice.Given as goal

abbrev pub invariant-loop-body : goal.invariant-loop-body
invariant-loop-body l = l.copies.items ≡ l.initial.copies.items ++ take l.body-index l.bodies
