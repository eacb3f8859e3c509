-- Empty slots meet the table's invariant.
use Rattle.transactions.proofs.SlotLemmas.{slots-empty}
use Rattle.transactions.proofs.active_table.ActiveTable.new.Goals as goal

pub invariant_of-result : goal.invariant_of-result
invariant_of-result c = rw (c.in_ok-slots.ensures, c.in_ok-starts.ensures) (slots-empty _ c.ranges.connectors.fits)
