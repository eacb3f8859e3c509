-- One more connector adds its own limit if it is active.
use Rattle.std.proofs.Common.{◌≡◌, ℕ, ◌+◌, min, ◌∙◌, sym, ap, cond, Bool, filter, is_some, arith, rules}
use Rattle.std.specs.List.{range_with_len, sum_by}
use Rattle.meaning.specs.View.{point_state, active_since}
use Rattle.meaning.specs.Limit.{own_limit}
use Rattle.meaning.specs.Cause.{Bound}
use Rattle.meaning.specs.Theory.Reasons.{own_is}
use Rattle.meaning.proofs.Sums.{sum_passing_more, min_more}
use Rattle.meaning.proofs.view.View.shared_limit_up_to.Goals as goal
use Rattle.meaning.proofs.view.View.shared_limit_up_to.Goals.{then-is_some, else-is_some}

pub loop-index-preserved : goal.loop-index-preserved
loop-index-preserved c =
    let state = point_state c.args.self.now in
    let give = λ (connector : ℕ). own_limit state connector c.args.asked c.args.instant in
    let test = λ (connector : ℕ). is_some (active_since state connector) in
    let next = c.loop-index.index + 1 in
    let before : ℕ = sum_by give (filter test (range_with_len 1 c.loop-index.index)) in
    let more = sum_passing_more give test 1 c.loop-index.index next (omega arith) in
    let active : is_some (active_since state next) ≡ c.is_some.result = search rules in
    elim c.if-is_some.branch [
      | then-is_some w ↦
          let here = ap (λ (b : Bool). cond b (before + give next) before) (active ∙ w.if-is_some.true) in
          let own : w.from.result ≡ give next = w.from.ensures ∙ (ap (λ (b : Bound). b.limit) (w.own.view_is ∙ w.own_bound-own.ensures) ∙ own_is state next c.args.asked c.args.instant) in
          w.sum-is ∙ (w.min-sum.ensures ∙ (ap (λ (n : ℕ). min c.args.most (c.loop-index.sum + n)) own ∙ (min_more c.args.most c.loop-index.sum before (give next) c.loop-index.invariant ∙ ap (min c.args.most) (sym (more ∙ here)))))
      | else-is_some w ↦
          let here = ap (λ (b : Bool). cond b (before + give next) before) (active ∙ w.if-is_some.false) in
          w.sum-is ∙ (c.loop-index.invariant ∙ ap (min c.args.most) (sym (more ∙ here)))
    ]
