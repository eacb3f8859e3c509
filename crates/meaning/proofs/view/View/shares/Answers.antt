-- One more connector adds its share if it is active.
use Rattle.std.proofs.Common.{◌≡◌, ℕ, ◌+◌, [], ◌∷◌, ◌++◌, ◌∙◌, sym, ap, is_some, List, arith, rules}
use Rattle.std.specs.List.{range_with_len}
use Rattle.meaning.specs.declared.cause.Share.{Share}
use Rattle.meaning.specs.View.{point_state, active_since}
use Rattle.meaning.specs.Cause.{own_bound, share}
use Rattle.meaning.specs.Theory.Ranges.{range_more}
use Rattle.meaning.proofs.Bounds.{share_by, passed_more, passed_skip}
use Rattle.meaning.proofs.view.View.shares.Goals as goal
use Rattle.meaning.proofs.view.View.shares.Goals.{then-is_some+in_ok-push, else-is_some}

pub loop-index-preserved : goal.loop-index-preserved
loop-index-preserved c =
    let state = point_state c.args.self.now in
    let give = share state c.args.asked c.args.instant in
    let test = λ (connector : ℕ). is_some (active_since state connector) in
    let connector = c.loop-index.index + 1 in
    let before = range_with_len 1 c.loop-index.index in
    let after = range_with_len 1 (c.loop-index.index + 1) in
    let more = range_more 1 c.loop-index.index connector (omega arith) in
    let active : is_some (active_since state connector) ≡ c.is_some.result = search rules in
    elim c.if-is_some.branch [
      | then-is_some+in_ok-push w ↦
          let pushed : w.push.new.self.items ≡ c.loop-index.shares.items ++ share_by connector (own_bound state connector c.args.asked c.args.instant) ∷ [] = search rules in
          ap (λ v. v.items) w.shares-is
          ∙ (pushed
          ∙ (ap (λ (shares : List Share). shares ++ give connector ∷ []) c.loop-index.invariant ∙ sym (passed_more give test before after connector more (active ∙ w.if-is_some.true))))
      | else-is_some w ↦
          ap (λ v. v.items) w.shares-is ∙ (c.loop-index.invariant ∙ sym (passed_skip give test before after connector more (active ∙ w.if-is_some.false)))
    ]
