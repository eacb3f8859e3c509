-- The work of the rows so far and the rest make up the most that it may be.
use Rattle.std.proofs.Common.{◌≡◌, ◌+◌, take, sum_by}
use Rattle.meaning.specs.View.{point_state}
use Rattle.compile_pool.specs.Work.{work_at}
use Rattle.compile_pool.proofs.work.work_within.Given as goal

abbrev pub invariant-loop-index : goal.invariant-loop-index
invariant-loop-index l =
    l.left + sum_by (work_at (point_state l.view) l.ask) (take l.index l.view.rows.now) ≡ l.most
