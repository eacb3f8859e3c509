-- The slots so far are empty.
use Rattle.std.proofs.Common.{◌≡◌, None, replicate}
use Rattle.sim_point_core.proofs.own_book.nothing_running.Given as goal

abbrev pub invariant-loop-connector : goal.invariant-loop-connector
invariant-loop-connector l = l.running.items ≡ replicate l._connector None
