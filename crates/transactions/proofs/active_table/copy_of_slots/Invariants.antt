-- The copies so far are those of the slots so far.
use Rattle.std.proofs.Common.{◌≡◌, take}
use Rattle.transactions.proofs.active_table.copy_of_slots.Given as goal

abbrev pub invariant-loop-slot : goal.invariant-loop-slot
invariant-loop-slot l = l.copies.items ≡ take l.slot-index l.slots
