-- The verdict is refused.
use Rattle.std.proofs.Common.{List, ℕ, None, subst, ap, ◌∙◌}
use Rattle.sweep_compiler.specs.Judged.{Judgement}
use Rattle.site_core.specs.declared.step.Step.{Step}
use Rattle.site_core.specs.declared.step.Step.TheVariants as steps
use Rattle.texts.specs.Said.{said_of}
use Rattle.version_store.specs.Calls.{IsRefusalOf}
use Rattle.journal.specs.Restore.{judged_exactly}
use Rattle.journal.proofs.RestoreLemmas.{leads_refused}
use Rattle.journal.proofs.restored_replies.judge.Goals as goal

pub returns-in-Err : goal.returns-in-Err
returns-in-Err g c =
    let old = c.args.book.now in
    let text = c.args.text.now in
    let exactly = judged_exactly c.args.job (said_of text) in
    let same = ap (λ (point : List ℕ). steps.Judge point c.args.call c.in_ok-judged.judged) (c.in_ok-point.ensures ∙ c.point.ensures)
    ∙ ap (λ (judged : Judgement). steps.Judge text.point c.args.call judged) c.in_ok-judged.ensures in
    leads_refused old c.judge.new.self None (steps.Judge text.point c.args.call exactly) c.in-Err.refusal c.from.result
    (subst (λ (step : Step). IsRefusalOf old step c.in-Err.refusal) same c.in-Err.ensures.refusal)
    c.from.ensures c.in-Err.ensures.kept
