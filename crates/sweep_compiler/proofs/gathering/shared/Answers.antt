-- The sum with one more bound fits.
use Rattle.std.proofs.Common.{◌≡◌, ◌+◌, ◌∙◌, take, ap, arith}
use Rattle.sweep_compiler.specs.ByCases.Running.{RunningBound, bound_now}
use Rattle.sweep_compiler.specs.ByCases.Swept.{shared_now}
use Rattle.sweep_compiler.proofs.Starting.{shared_more, sum_fits}
use Rattle.sweep_compiler.proofs.gathering.shared.Goals as goal

pub overflow_add-sum : goal.overflow_add-sum
overflow_add-sum c =
    let bounds = c.args.bounds.now in
    let i = c.loop-index.index in
    let above = c.loop-index.auto.index in
    let one = c.from-sum.ensures ∙ (c.limit.ensures ∙ ap (λ (bound : RunningBound). bound_now bound) c.index-bounds-index.is) in
    let more = shared_more bounds i c.index-bounds-index.result (omega (arith, above)) c.loop-index-test.true in
    let fits = sum_fits bounds (i + 1) c.requires.small c.requires.few in
    let so_far = c.loop-index.invariant in
    omega (arith, one, more, fits, so_far)

pub loop-index-preserved : goal.loop-index-preserved
loop-index-preserved c =
    let bounds = c.args.bounds.now in
    let i = c.loop-index.index in
    let above = c.loop-index.auto.index in
    let one = c.from-sum.ensures ∙ (c.limit.ensures ∙ ap (λ (bound : RunningBound). bound_now bound) c.index-bounds-index.is) in
    let more = shared_more bounds i c.index-bounds-index.result (omega (arith, above)) c.loop-index-test.true in
    let so_far = c.loop-index.invariant in
    let sum : c.loop-index.sum + c.from-sum.result ≡ shared_now (take (i + 1) bounds) = omega (arith, one, more, so_far) in
    sum
