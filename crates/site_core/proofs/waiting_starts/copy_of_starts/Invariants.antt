-- The copies so far are those of the starts so far.
use Rattle.std.proofs.Common.{◌≡◌, take}
use Rattle.site_core.proofs.waiting_starts.copy_of_starts.Given as goal

abbrev pub invariant-loop-start : goal.invariant-loop-start
invariant-loop-start l = l.copies.items ≡ take l.start-index l.starts
