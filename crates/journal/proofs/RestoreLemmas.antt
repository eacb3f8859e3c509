-- The effect of a call on the book's state, as the effect of a line.
use Rattle.std.proofs.Common.{◌≡◌, ℕ, ◌⊎◌, inl, inr, Bool, true, false, cond, eqb, List, Option, Some, None, Result, Ok, Err, refl, sym, ap, ◌∙◌, subst, arith}
use Rattle.ocpp_scalars.specs.ResultSteps.{◌>>=◌}
use Rattle.ocpp_scalars.specs.declared.refusal.Refusal.{Refusal}
use Rattle.ocpp_scalars.specs.declared.refusal.Refusal.TheVariants as refusals
use Rattle.site_core.specs.declared.step.Step.{Step}
use Rattle.site_core.specs.declared.step.Step.TheVariants as steps
use Rattle.site_core.specs.declared.reply.Reply.{Reply}
use Rattle.site_core.specs.declared.reply.Reply.TheVariants as replies
use Rattle.messages.specs.declared.side.Side.TheVariants.{Point}
use Rattle.texts.specs.Said.{said_of}
use Rattle.texts.specs.SentText.{Sent, sent}
use Rattle.site_core.specs.State.{MachineState, audit_job}
use Rattle.site_core.specs.Step.{Made, stepped, no_answer, is_event, is_reply_to}
use Rattle.version_store.specs.Passes.{PassState, pass_after}
use Rattle.version_store.specs.Store.{StoreState, may_fold}
use Rattle.version_store.specs.Calls.{Makes, IsRefusalOf, IsRefusalTo}
use Rattle.journal.specs.declared.restore_fault.RestoreFault.{RestoreFault}
use Rattle.journal.specs.declared.restore_fault.RestoreFault.TheVariants as faults
use Rattle.journal.specs.Line.{LineState, verdict}
use Rattle.journal.specs.RestoreFault.{fault_of_refusal}
use Rattle.journal.specs.Restore.{KeepsPass, IsFaultOf, is_change, is_made, number_drawn, number_fault, unless_fault, made_or_refused, made_with, restored}
use Rattle.journal.specs.ByCases.Restore.{Leads, judged}

abbrev pub made_so : Reply → MachineState → Made
made_so reply after = record { reply = reply; after = after }

-- ---- a call that made a step

pub step_made : (old new : StoreState) (step : Step) (reply : Reply) → Makes old step reply new
    → stepped no_answer old.present step ≡ Ok (made_so reply new.present)
step_made old new step reply (inl adds) = adds.made
step_made old new step reply (inr alone) =
    alone.made ∙ ap (λ (s : StoreState). Ok (made_so reply s.present)) (sym alone.kept)

-- a reply that isn't an event leaves the state
pub left : (old new : StoreState) (step : Step) (reply : Reply) → Makes old step reply new
    → is_event old.present reply ≡ false → new.present ≡ old.present
left old new step reply (inl adds) none = absurd (cc (none, adds.event))
left old new step reply (inr alone) none = ap (λ (s : StoreState). s.present) alone.kept

-- a change that draws no number isn't an event
pub no_number : (old : MachineState) (step : Step) (reply : Reply) (version : ℕ)
    → is_change step ≡ true → is_reply_to step reply ≡ true → number_drawn reply version ≡ None
    → is_event old reply ≡ false
no_number old (steps.Install point row) replies.Accepted version change own none = absurd (cc none)
no_number old (steps.Clear point criteria) replies.Accepted version change own none = absurd (cc none)
no_number old (steps.Clear point criteria) replies.Unknown version change own none = refl
no_number old (steps.Start point connector begin) (replies.Started id) version change own none = absurd (cc none)
no_number old (steps.Start point connector begin) (replies.Repeated id) version change own none = refl
no_number old (steps.Stop point number) replies.Ended version change own none = absurd (cc none)
no_number old (steps.Stop point number) replies.NoSuch version change own none = refl
no_number old (steps.Audit point connector duration) (replies.Audited call unit) version change own none = absurd (cc none)
no_number old (steps.RemoteStart point connector id_tag profile) (replies.Called call) version change own none = absurd (cc none)
no_number old (steps.Boot point moment) (replies.Booted first) version change own none = absurd (cc none)
no_number old (steps.Install point row) reply version change own none = absurd (cc own)
no_number old (steps.Clear point criteria) reply version change own none = absurd (cc own)
no_number old (steps.Start point connector begin) reply version change own none = absurd (cc own)
no_number old (steps.Stop point number) reply version change own none = absurd (cc own)
no_number old (steps.Audit point connector duration) reply version change own none = absurd (cc own)
no_number old (steps.RemoteStart point connector id_tag profile) reply version change own none = absurd (cc own)
no_number old (steps.Boot point moment) reply version change own none = absurd (cc own)
no_number old step reply version change own none = absurd (cc change)

pub change_folds : (step : Step) → is_change step ≡ true → may_fold step ≡ true
change_folds (steps.Take take) change = absurd (cc change)
change_folds (steps.Compile number) change = absurd (cc change)
change_folds (steps.Answer number) change = absurd (cc change)
change_folds steps.Finish change = absurd (cc change)
change_folds step change = refl

-- ---- the state that it leads to

-- a fault that leaves the state means that nothing was drawn
nothing_drawn : (written drawn : Option ℕ) (fault : RestoreFault)
    → number_fault written drawn ≡ Some fault → is_made fault ≡ false → drawn ≡ None
nothing_drawn None drawn fault is other = absurd (cc is)
nothing_drawn (Some written) None fault is other = refl
nothing_drawn (Some written) (Some drawn) fault is other = go (eqb written drawn) is
  where
    go : (same : Bool) → cond same None (Some (faults.OtherNumber written drawn)) ≡ Some fault
        → ◌≡◌ {A = Option ℕ} (Some drawn) None
    go true none = absurd (cc none)
    go false some =
        let it : faults.OtherNumber written drawn ≡ fault = cc some in
        let made : is_made fault ≡ true = ap is_made (sym it) in
        absurd (cc (made, other))

abbrev pub told : Option RestoreFault → Result Unit RestoreFault
told fault = unless_fault fault tt

-- the step was made: with the written number, it led to the wanted state
pub leads : (old after : MachineState) (written : Option ℕ) (step : Step) (reply : Reply)
    (result : Result Unit RestoreFault)
    → stepped no_answer old step ≡ Ok (made_so reply after)
    → (number_drawn reply after.numbers.version ≡ None → after ≡ old)
    → result ≡ unless_fault (number_fault written (number_drawn reply after.numbers.version)) tt
    → Leads (made_with old written step) old result after
leads old after written step reply result made quiet is =
    subst (λ (r : Result Unit RestoreFault). Leads (made_with old written step) old r after) (sym is)
    (go (number_fault written drawn) refl wanted)
  where
    drawn : Option ℕ
    drawn = number_drawn reply after.numbers.version

    wanted : made_with old written step ≡ unless_fault (number_fault written drawn) after
    wanted = ap (λ (r : Result Made Refusal). made_or_refused r >>= (λ (m : Made).
        unless_fault (number_fault written (number_drawn m.reply m.after.numbers.version)) m.after)) made

    go : (fault : Option RestoreFault) → number_fault written drawn ≡ fault
        → made_with old written step ≡ unless_fault fault after
        → Leads (made_with old written step) old (told fault) after
    go None none as_wanted = record { done = as_wanted; fault = tt; kept = tt }
    go (Some fault) some as_wanted = record {
      done = tt;
      fault = inl as_wanted;
      kept = λ other. quiet (nothing_drawn written drawn fault some other);
    }

named : (refusal : Refusal) → (fault_of_refusal refusal ≡ faults.Refused refusal)
    ⊎ (fault_of_refusal refusal ≡ faults.OutOfMemory)
named refusals.OutOfMemory = inr refl
named refusal = inl refl

-- the step was refused
refused_fault : (step : Step) (store : StoreState) (written : Option ℕ)
    (refusal : Refusal) → IsRefusalOf store step refusal
    → IsFaultOf (made_with store.present written step) (fault_of_refusal refusal)
refused_fault step store written refusal cause = go (stepped no_answer store.present step) cause
  where
    next : Made → Result MachineState RestoreFault
    next made = unless_fault
        (number_fault written (number_drawn made.reply made.after.numbers.version)) made.after

    go : (r : Result Made Refusal) → IsRefusalTo store step r refusal
        → IsFaultOf (made_or_refused r >>= next) (fault_of_refusal refusal)
    go (Ok made) is = inr (ap fault_of_refusal is.1)
    go (Err first) is = elim (named refusal) [
      | inl one ↦ inl (ap (λ (r : Refusal). Err (faults.Refused r)) (sym is) ∙ ap (λ (f : RestoreFault). Err f) (sym one))
      | inr memory ↦ inr memory
    ]

pub leads_refused : (old new : StoreState) (written : Option ℕ) (step : Step) (refusal : Refusal)
    (fault : RestoreFault) → IsRefusalOf old step refusal → fault ≡ fault_of_refusal refusal
    → new ≡ old
    → Leads {A = Unit} (made_with old.present written step) old.present (Err fault) new.present
leads_refused old new written step refusal fault cause is kept = record {
  done = tt;
  fault = subst (IsFaultOf (made_with old.present written step)) (sym is)
      (refused_fault step old written refusal cause);
  kept = λ other. ap (λ (s : StoreState). s.present) kept;
}

-- memory ran out before the step
pub leads_short : (wanted : Result MachineState RestoreFault) (old new : MachineState) → new ≡ old
    → Leads {A = Unit} wanted old (Err faults.OutOfMemory) new
leads_short wanted old new kept = record { done = tt; fault = inr refl; kept = λ made. kept }

-- the line of a verdict
pub verdict_leads : (old new : MachineState) (result : Result Unit RestoreFault) (moment : ℕ)
    (point : List ℕ) (call : ℕ) (frame : List ℕ) (text : Sent) (line : LineState)
    → text ≡ sent moment Point point frame
    → line ≡ record { moment = moment; point = point; noted = verdict call frame }
    → Leads (judged old text.point call (said_of text) (audit_job old text.point call)) old result new
    → Leads (restored old line) old result new
unfolding restored
verdict_leads old new result moment point call frame text line same line_is led =
    subst (λ (l : LineState). Leads (restored old l) old result new) (sym line_is)
    (subst (λ (t : Sent). Leads (judged old t.point call (said_of t) (audit_job old t.point call)) old result new) same led)

-- ---- passes

pub keeps : (was pass : PassState) (reply : Reply) (version : ℕ)
    → pass ≡ pass_after was reply version → KeepsPass was pass
keeps was pass reply version is =
    subst (KeepsPass was) (sym is)
    (record { changes = omega arith; answers = omega arith; seen = omega arith })

pub keeps_same : (was pass : PassState) → pass ≡ was → KeepsPass was pass
keeps_same was pass is =
    subst (KeepsPass was) (sym is)
    (record { changes = omega arith; answers = omega arith; seen = omega arith })
