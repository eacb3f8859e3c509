-- The message that leaves is the answer that was served.
use Rattle.std.proofs.Common.{ℕ, List, sym, ap, subst, option_map, string_bytes}
use Rattle.session.specs.Leaving.{IsAnswerOrCall}
use Rattle.session.proofs.LeavingLemmas.{answer_leaves}
use Rattle.session.proofs.serving.served_text.answer_text.Goals as goal

pub clear_to_leave-requires : goal.clear_to_leave-requires
clear_to_leave-requires g c =
    let recorded = g.W.Name.ListName.is_recorded in
    let served = c.in_ok-answer.field-0 in
    subst (λ (t : List ℕ). IsAnswerOrCall recorded t served.seen) (sym c.as_str.ensures.value)
    (answer_leaves recorded c.args.core.now _ _ (option_map string_bytes served.answer)
    (string_bytes c.in-Some-answer.answer) served.seen c.in_ok-answer.ensures.served
    (ap (option_map string_bytes) c.in-Some-answer.is))
