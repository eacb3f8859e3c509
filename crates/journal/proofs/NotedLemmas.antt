-- The noted event of a step leads to the step's state.
use Rattle.std.proofs.Common.{◌≡◌, ℕ, Bool, true, false, cond, Option, Some, None, Result, Ok, Err, refl, sym, ap, ◌∙◌, eqb}
use Rattle.std.proofs.lemmas.Bool.{eqb-false}
use Rattle.ocpp_scalars.specs.ResultSteps.{◌>>=◌}
use Rattle.ocpp_scalars.specs.declared.refusal.Refusal.{Refusal}
use Rattle.messages.specs.declared.side.Side.{Side}
use Rattle.messages.specs.declared.side.Side.TheVariants.{Point}
use Rattle.sweep_compiler.specs.Verdict.{AuditRequest}
use Rattle.texts.specs.declared.asked.Asked.{Asked}
use Rattle.texts.specs.Asked.{asked_of}
use Rattle.texts.specs.Said.{said_of}
use Rattle.texts.specs.SentText.{Sent, sent}
use Rattle.site_core.specs.declared.step.Step.{Step}
use Rattle.site_core.specs.declared.step.Step.TheVariants as steps
use Rattle.site_core.specs.declared.reply.Reply.{Reply}
use Rattle.site_core.specs.State.{MachineState, audit_job}
use Rattle.site_core.specs.Step.{Made, stepped, no_answer}
use Rattle.journal.specs.declared.restore_fault.RestoreFault.{RestoreFault}
use Rattle.journal.specs.declared.restore_fault.RestoreFault.TheVariants.{OtherStep, OtherNumber}
use Rattle.journal.specs.Restore.{change_asked, confirm_asked, judge_asked, judged_exactly, number_drawn, number_fault, unless_fault, made_or_refused, made_with, restored}
use Rattle.journal.specs.NotedStep.{ChangesAreRestored, ConfirmsAreRestored, VerdictsAreRestored, LinksAreRestored, SendsAreRestored, LossesAreRestored}

is_itself : (number : ℕ) → eqb number number ≡ true
is_itself number = elim (eqb number number) as (λ b. eqb number number ≡ b → b ≡ true) [
  | true ↦ λ is. refl
  | false ↦ λ is. absurd (eqb-false number number is refl)
] refl

pub same_number : (number : ℕ) → number_fault (Some number) (Some number) ≡ None
same_number number =
    ap (λ (same : Bool). cond same None (Some (OtherNumber number number))) (is_itself number)

-- a made step, with its number
pub made_again : (state : MachineState) (step : Step) (made : Made) (written : Option ℕ)
    → stepped no_answer state step ≡ Ok made
    → number_fault written (number_drawn made.reply made.after.numbers.version) ≡ None
    → made_with state written step ≡ Ok made.after
made_again state step made written is none =
    ap (λ (r : Result Made Refusal). made_or_refused r >>= (λ (m : Made). unless_fault
    (number_fault written (number_drawn m.reply m.after.numbers.version)) m.after)) is
    ∙ ap (λ (fault : Option RestoreFault). unless_fault fault made.after) none

with_number : (number : ℕ) (drawn : Option ℕ) → drawn ≡ Some number
    → number_fault (Some number) drawn ≡ None
with_number number drawn is =
    ap (λ (d : Option ℕ). number_fault (Some number) d) is ∙ same_number number

pub changes : ChangesAreRestored
unfolding restored
changes state text sender step made number side asks is drawn =
    ap (λ (r : Result Step RestoreFault). r >>= made_with state (Some number))
    (ap (λ (s : Side). change_asked (asked_of (sent text.moment s text.point text.frame))) side ∙ asks)
    ∙ made_again state step made (Some number) is
    (with_number number (number_drawn made.reply made.after.numbers.version) drawn)

by_point : (text : Sent) → text.sender ≡ Point
    → sent text.moment Point text.point text.frame ≡ text
by_point text is = ap (λ (sender : Side). sent text.moment sender text.point text.frame) (sym is)

pub confirms : ConfirmsAreRestored
unfolding restored
confirms state text link call accepted made sender asks is =
    ap (λ (a : Asked). confirm_asked link a >>= made_with state None)
    (ap asked_of (by_point text sender) ∙ asks)
    ∙ made_again state (steps.Confirm text.point link call accepted) made None is refl

pub verdicts : VerdictsAreRestored
unfolding restored
verdicts state text call job made sender found is =
    ap (λ (t : Sent). judge_asked text.point call (said_of t) (audit_job state text.point call) >>= made_with state None) (by_point text sender)
    ∙ ap (λ (j : Option AuditRequest). judge_asked text.point call (said_of text) j >>= made_with state None) found
    ∙ made_again state (steps.Judge text.point call (judged_exactly job (said_of text))) made None is refl

pub links : LinksAreRestored
unfolding restored
links state moment point link made is reply =
    made_again state (steps.Attach point) made (Some link) is
    (with_number link (number_drawn made.reply made.after.numbers.version)
    (ap (λ (r : Reply). number_drawn r made.after.numbers.version) reply))

pub sends : SendsAreRestored
unfolding restored
sends state moment point link call made is reply =
    made_again state (steps.Send point link) made (Some call.number) is
    (with_number call.number (number_drawn made.reply made.after.numbers.version)
    (ap (λ (r : Reply). number_drawn r made.after.numbers.version) reply))

pub losses : LossesAreRestored
unfolding restored
losses state moment point link made is =
    made_again state (steps.Lost point link) made None is refl
