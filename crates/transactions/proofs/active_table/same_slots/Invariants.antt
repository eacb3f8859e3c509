-- The slots so far are equal.
use Rattle.std.proofs.Common.{◌≡◌, take}
use Rattle.transactions.proofs.active_table.same_slots.Given as goal

abbrev pub invariant-loop-place : goal.invariant-loop-place
invariant-loop-place l = take l.place l.slots ≡ take l.place l.others
