-- With one more row, the best of the rows so far becomes that of one more.
use Rattle.std.proofs.Common.{ℕ, ◌∙◌, sym, ap, cond, Bool, Option, filter, take}
use Rattle.std.specs.List.{filter_map}
use Rattle.profile.specs.Greatest.{greatest}
use Rattle.profile.specs.Candidates.{is_candidate}
use Rattle.meaning.specs.View.{point_state}
use Rattle.meaning.specs.Prevailing.{level_and_limit}
use Rattle.meaning.specs.Theory.Greatest.{greatest_of}
use Rattle.meaning.proofs.GreatestLemmas.{passing_more}
use Rattle.meaning.proofs.view.View.prevailing.Goals as goal
use Rattle.meaning.proofs.view.View.prevailing.Goals.{then-is_candidate, else-is_candidate}

pub loop-row-preserved : goal.loop-row-preserved
loop-row-preserved c =
    let level = λ (best : ℕ × ℕ). best.0 in
    let give = level_and_limit (point_state c.args.self.now) c.args.connector c.args.asked c.args.instant in
    let test = is_candidate c.args.purpose c.args.self.now.rows.now c.args.connector in
    let rows = c.args.self.now.rows.now in
    let before : Option (ℕ × ℕ) = greatest level (filter_map give (filter test (take c.loop-row.row-index rows))) in
    let more = passing_more level give test rows c.loop-row.row-index c.row-item.result c.loop-row-test.true c.row-item.is in
    let counted = sym c.is_candidate.ensures in
    elim c.if-is_candidate.branch [
      | then-is_candidate w ↦
          let here = ap (λ (b : Bool). cond b (greatest_of level before (give c.row-item.result)) before) (counted ∙ w.if-is_candidate.true) in
          let first = ap (λ (best : Option (ℕ × ℕ)). greatest_of level best w.level_and_limit.result) c.loop-row.invariant in
          let second = ap (λ (next : Option (ℕ × ℕ)). greatest_of level before next) w.level_and_limit.ensures in
          w.best-is ∙ (w.higher-best.ensures ∙ (first ∙ (second ∙ sym (more ∙ here))))
      | else-is_candidate w ↦
          let here = ap (λ (b : Bool). cond b (greatest_of level before (give c.row-item.result)) before) (counted ∙ w.if-is_candidate.false) in
          w.best-is ∙ (c.loop-row.invariant ∙ sym (more ∙ here))
    ]
