-- The product fits in 64 bits, and work that exceeds the rest exceeds the most in all.
use Rattle.std.proofs.Common.{rules, arith}
use Rattle.std.proofs.lemmas.Nat.{mul-le}
use Rattle.std.proofs.lemmas.List.Sums.{sum_by_more_le}
use Rattle.meaning.specs.View.{point_state}
use Rattle.compile_pool.specs.Work.{work_at}
use Rattle.compile_pool.proofs.work.work_within.Goals as goal

pub overflow_mul-work : goal.overflow_mul-work
overflow_mul-work c =
    let most = mul-le c.looks_at.result c.changes_of.result 4_294_967_296 6_466 c.looks_at.ensures.few c.changes_of.ensures.few in
    search (most, arith)

pub returns-then-work-left : goal.returns-then-work-left
returns-then-work-left c =
    let state = point_state c.args.view.now in
    let ask = c.args.ask.now in
    let more = sum_by_more_le (work_at state ask) c.args.view.now.rows.now c.loop-index.index c.index-view-index.result c.loop-index-test.true in
    search rules
