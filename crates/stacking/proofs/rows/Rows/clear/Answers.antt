-- The remaining rows meet the invariant.
use Rattle.stacking.proofs.RowLemmas.{rows-filter}
use Rattle.stacking.proofs.rows.Rows.clear.Goals as goal

pub invariant_of-self : goal.invariant_of-self
invariant_of-self c = rw c.drop_cleared.ensures.rows (rows-filter _ _ c.self.invariant)
