-- The level stays above those of the rows so far.
use Rattle.std.proofs.Common.{◌≡◌, ◌<◌, ◌≤◌, ◌+◌, ℕ, List, take, length, slice_index_or, arith, subst, sym}
use Rattle.std.proofs.lemmas.Bool.Decides.{nat_tests}
use Rattle.std.specs.List.{All}
use Rattle.std.proofs.lemmas.List.Elements.{All-more, All-weaker, All-same}
use Rattle.std.proofs.lemmas.List.{take_all}
use Rattle.profile.specs.declared.row.Row.{Row}
use Rattle.stacking.proofs.levels.level_above.Goals.{then-row-above, else-row-above}
use Rattle.stacking.proofs.levels.level_above.Goals as goal

one_more : (rows : List Row) (place above higher : ℕ) (row : Row) → place < length rows
    → row ≡ slice_index_or rows place row → above ≤ higher → row.profile.stack_level < higher
    → All (λ (row : Row). row.profile.stack_level < above) (take place rows)
    → All (λ (row : Row). row.profile.stack_level < higher) (take (place + 1) rows)
one_more rows place above higher row there is rises below so_far =
    All-more (λ (r : Row). r.profile.stack_level < higher) rows place row there
    (All-weaker (λ (r : Row). r.profile.stack_level < above) (λ (r : Row). r.profile.stack_level < higher)
    (λ r less. omega (arith, less, rises)) _ so_far)
    (subst (λ (r : Row). r.profile.stack_level < higher) is below)

pub loop-row-preserved : goal.loop-row-preserved
loop-row-preserved c =
    let rows = c.args.rows.now in
    let more = one_more rows c.loop-row.row-index c.loop-row.above c.if-row-above.above c.row-item.result
    c.loop-row-test.true c.row-item.is in
    let low : c.row-item.result.profile.stack_level ≤ 99 = grind (arith, nat_tests, c.row-item.result.profile.low) in
    elim c.if-row-above.branch [
      | then-row-above w ↦ record {
        above = more (omega (arith, w.above-is, w.if-row-above.true)) (omega (arith, w.above-is)) c.loop-row.invariant.above;
        level = omega (arith, w.above-is, low);
      }
      | else-row-above w ↦ record {
        above = more (omega (arith, w.above-is)) (omega (arith, w.above-is, w.if-row-above.false)) c.loop-row.invariant.above;
        level = omega (arith, w.above-is, c.loop-row.invariant.level);
      }
    ]

pub returns-clause-above : goal.returns-clause-above
returns-clause-above c =
    All-same (λ (row : Row). row.profile.stack_level < c.loop-row.above) _ _
    (sym (take_all c.loop-row.row-index c.args.rows.now c.loop-row-test.false)) c.loop-row.invariant.above
