-- With one more row, the best of the rows so far becomes that of one more.
use Rattle.std.proofs.Common.{◌≡◌, ◌∙◌, sym, ap, cond, Bool, Option, filter, take, option_map, rules}
use Rattle.std.specs.List.{filter_map}
use Rattle.profile.specs.Greatest.{greatest}
use Rattle.profile.specs.Candidates.{is_candidate}
use Rattle.meaning.specs.declared.bound.ProfileLimit.{ProfileLimit}
use Rattle.meaning.specs.View.{point_state}
use Rattle.meaning.specs.Cause.{RowLimit, level_of, row_limit}
use Rattle.meaning.specs.ByCases.Cause.{profile_limit_of, level_of_limit}
use Rattle.meaning.specs.Theory.Greatest.{greatest_of}
use Rattle.meaning.proofs.GreatestLemmas.{passing_more}
use Rattle.meaning.proofs.Bounds.{higher_is}
use Rattle.meaning.proofs.view.View.prevailing_profile.Goals as goal
use Rattle.meaning.proofs.view.View.prevailing_profile.Goals.{then-is_candidate, else-is_candidate}

pub loop-row-preserved : goal.loop-row-preserved
loop-row-preserved c =
    let give = row_limit (point_state c.args.self.now) c.args.connector c.args.asked c.args.instant in
    let test = is_candidate c.args.purpose c.args.self.now.rows.now c.args.connector in
    let rows = c.args.self.now.rows.now in
    let before : Option RowLimit = greatest level_of (filter_map give (filter test (take c.loop-row.row-index rows))) in
    let more = passing_more level_of give test rows c.loop-row.row-index c.row-item.result c.loop-row-test.true c.row-item.is in
    let counted : is_candidate c.args.purpose rows c.args.connector c.row-item.result ≡ c.is_candidate.result = search rules in
    elim c.if-is_candidate.branch [
      | then-is_candidate w ↦
          let here = ap (λ (b : Bool). cond b (greatest_of level_of before (give c.row-item.result)) before) (counted ∙ w.if-is_candidate.true) in
          let first = ap (λ (best : Option ProfileLimit). greatest_of level_of_limit best w.profile_limit.result) c.loop-row.invariant in
          let second = ap (λ (next : Option ProfileLimit). greatest_of level_of_limit (option_map profile_limit_of before) next) w.profile_limit.ensures in
          w.best-is ∙ (w.higher_level-best.ensures ∙ (first ∙ (second ∙ (higher_is before (give c.row-item.result) ∙ ap (option_map profile_limit_of) (sym (more ∙ here))))))
      | else-is_candidate w ↦
          let here = ap (λ (b : Bool). cond b (greatest_of level_of before (give c.row-item.result)) before) (counted ∙ w.if-is_candidate.false) in
          w.best-is ∙ (c.loop-row.invariant ∙ ap (option_map profile_limit_of) (sym (more ∙ here)))
    ]
