-- Each thread so far runs, or couldn't be made.
use Rattle.std.proofs.Common.{◌≤◌}
use Rattle.compile_pool.proofs.workers.fn.run_pool.scope.Given as goal

abbrev pub invariant-loop-thread : goal.invariant-loop-thread
invariant-loop-thread g l = (1 ≤ l.ran) × (l.ran ≤ l._thread)
