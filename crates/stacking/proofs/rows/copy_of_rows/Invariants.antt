-- The copies so far are those of the rows so far.
use Rattle.std.proofs.Common.{◌≡◌, take}
use Rattle.stacking.proofs.rows.copy_of_rows.Given as goal

abbrev pub invariant-loop-row : goal.invariant-loop-row
invariant-loop-row l = l.copies.items ≡ take l.row-index l.rows
