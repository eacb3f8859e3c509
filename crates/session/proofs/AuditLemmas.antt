-- The verdict on a point's reply, from the steps that lead there.
use Rattle.std.proofs.Common.{◌≡◌, subst, sym}
use Rattle.sweep_compiler.specs.Judged.{Judgement}
use Rattle.site_core.specs.declared.step.Step.TheVariants as steps
use Rattle.version_store.specs.Store.{StoreState, IsStore}
use Rattle.texts.specs.SentText.{Sent}
use Rattle.session.specs.Audit.{OpenAudit, IsJudgedBy, MakesOrRefuses, BringsVerdict}

pub brought : (text : Sent) (audit inside : OpenAudit) (judged : Judgement)
    (locked old new : StoreState)
    → inside ≡ audit → IsJudgedBy text inside.asked judged → IsStore locked → old ≡ locked
    → MakesOrRefuses old (steps.Judge inside.point inside.call judged) new
    → BringsVerdict text audit
brought text audit inside judged locked old new same is_judged store locked_is made =
    subst (BringsVerdict text) same (record {
      judged = judged;
      is_judged = is_judged;
      old = old;
      new = new;
      store = subst IsStore (sym locked_is) store;
      brought = made;
    })
