-- The count so far is that of the starts read so far.
use Rattle.std.proofs.Common.{◌≡◌, ◌≤◌, take}
use Rattle.compile_pool.specs.Work.{active_count}
use Rattle.compile_pool.proofs.work.active_count.Given as goal

abbrev pub invariant-loop-index : goal.invariant-loop-index
invariant-loop-index l = (l.count ≡ active_count (take l.index l.starts)) × (l.count ≤ l.index)
