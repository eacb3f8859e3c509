-- Only this row has changed, and the sum with it.
use Rattle.std.proofs.Common.{rules, ◌≡◌, ◌<◌, ◌∙◌, ap, sym, subst, List, length, arith}
use Rattle.std.specs.List.{slice_set}
use Rattle.sweep_compiler.specs.ByCases.Running.{RunningBound, bound_now, due_at}
use Rattle.sweep_compiler.specs.ByCases.Swept.{row_count}
use Rattle.sweep_compiler.proofs.Passing.{length_kept, count_kept}
use Rattle.sweep_compiler.proofs.PassedRows.{written, row_inside, due_of_bound, sum_after}
use Rattle.sweep_compiler.proofs.limit_curve.pass_row.Goals as goal
use Rattle.sweep_compiler.proofs.limit_curve.pass_row.Goals.{then-bound-gt0, else-bound-gt0}

pub pass-requires : goal.pass-requires
pass-requires c = record {
  within = row_inside c.args.bounds.now.items c.args.bound c.args.row c.index_mut.result.now c.requires.has_bound c.requires.has_row c.index_mut.ensures.value;
}

pub overflow_add-sum : goal.overflow_add-sum
overflow_add-sum c =
    let less : c.from.result ≡ bound_now c.index.result.now = c.from.ensures ∙ c.limit-before.ensures in
    let from = c.from-then-bound-gt0.ensures in
    let limit = c.limit-after.ensures in
    let more : c.from-then-bound-gt0.result ≡ bound_now c.index-then-bound-gt0.result.now = search (rules, from, limit) in
    let after = sum_after c.args.bounds.now.items c.args.bound c.args.row c.pass.new.self c.index_mut.result.now c.index.result.now c.index-then-bound-gt0.result.now
    c.from.result c.from-then-bound-gt0.result c.args.sum.now c.if-bound-gt0.true c.requires.has_bound c.requires.small c.requires.few c.requires.sum
    c.in_ok-pass.ensures.passed c.index_mut.ensures.value c.index.ensures less c.index-then-bound-gt0.ensures more in
    let fits = after.fits in
    omega (arith, fits)

pub due-requires : goal.due-requires
due-requires c =
    let items = c.args.bounds.now.items in
    let n = c.args.bound in
    let list = written items n c.args.row c.pass.new.self c.index_mut.result.now c.in_ok-pass.ensures.passed c.index_mut.ensures.value in
    let inside = c.requires.has_bound in
    let has = c.requires.has_row in
    let long : n < length (slice_set items n c.pass.new.self) = subst (λ (bounds : List RunningBound). n < length bounds) (sym list) (omega (arith, inside, length_kept n c.args.row items)) in
    let row : c.args.row < row_count (slice_set items n c.pass.new.self) n = subst (λ (bounds : List RunningBound). c.args.row < row_count bounds n) (sym list) (omega (arith, has, count_kept n c.args.row n items)) in
    record { within = row_inside (slice_set items n c.pass.new.self) n c.args.row c.index-2.result.now long row c.index-2.ensures }

pub returns-clause-passed : goal.returns-clause-passed
returns-clause-passed c = written c.args.bounds.now.items c.args.bound c.args.row c.pass.new.self c.index_mut.result.now c.in_ok-pass.ensures.passed c.index_mut.ensures.value

pub returns-clause-next : goal.returns-clause-next
returns-clause-next c =
    let items = c.args.bounds.now.items in
    let n = c.args.bound in
    let list = written items n c.args.row c.pass.new.self c.index_mut.result.now c.in_ok-pass.ensures.passed c.index_mut.ensures.value in
    let inside = c.requires.has_bound in
    let long : n < length (slice_set items n c.pass.new.self) = subst (λ (bounds : List RunningBound). n < length bounds) (sym list) (omega (arith, inside, length_kept n c.args.row items)) in
    c.due.ensures
    ∙ (ap (λ (bound : RunningBound). due_at bound.runs c.args.row) c.index-2.ensures
    ∙ sym (due_of_bound (slice_set items n c.pass.new.self) n c.args.row c.index-2.result.now long))
