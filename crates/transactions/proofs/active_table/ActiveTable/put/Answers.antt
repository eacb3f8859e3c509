-- A change of one slot keeps the table's invariant.
use Rattle.transactions.proofs.SlotLemmas.{slots-set}
use Rattle.transactions.proofs.active_table.ActiveTable.put.Goals as goal

pub invariant_of-self : goal.invariant_of-self
invariant_of-self c = rw c.start_of.ensures (slots-set _ _ _ _ c.self.invariant)
