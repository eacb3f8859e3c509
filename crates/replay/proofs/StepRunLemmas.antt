-- One exact step of the machine is a run of one step; which steps hand out no schedule.
use Rattle.std.proofs.Common.{◌≡◌, ℕ, ℤ, ◌<◌, nat_lt, Bool, true, false, cond, is_some}
use Rattle.std.proofs.Common.{List, length, Option, Some, None, Result, Ok, Err, IfOk, refl, sym}
use Rattle.std.proofs.Common.{ap, ◌∙◌, subst}
use Rattle.ocpp_scalars.specs.declared.refusal.Refusal.{Refusal}
use Rattle.ocpp_scalars.specs.declared.refusal.Refusal.TheVariants as refusals
use Rattle.meaning.specs.Composite.{CompositeSchedule}
use Rattle.meaning.specs.Compiled.{IsCompiled}
use Rattle.meaning.specs.Limit.{limit_asked}
use Rattle.meaning.specs.Limits.{max_composite_periods}
use Rattle.meaning.specs.ByCases.Exact.{exact_periods, exact_schedule}
use Rattle.point_book.specs.Book.{state_of}
use Rattle.site_core.specs.declared.step.Step.{Step}
use Rattle.site_core.specs.declared.step.Step.TheVariants as acts
use Rattle.site_core.specs.declared.reply.Reply.{Reply}
use Rattle.site_core.specs.declared.reply.Reply.TheVariants.{Answered}
use Rattle.site_core.specs.declared.outcome.Outcome.{Outcome}
use Rattle.site_core.specs.declared.outcome.Outcome.TheVariants.{Done, Refused}
use Rattle.site_core.specs.State.{MachineState, Kept}
use Rattle.site_core.specs.Requests.{request_of}
use Rattle.site_core.specs.Right.{IsCompiledFor}
use Rattle.site_core.specs.Run.{HasOutcome}
use Rattle.site_core.specs.Step.{Made, Steps, compiles_kept, stepped, no_answer}
use Rattle.site_core.specs.Step.{IsRefusalOf, IsRefused, is_reply_to, RepliesAreTheirSteps}
use Rattle.site_core.specs.Theory.Steps.{CompileOrOther, is_compile, is_other, compile_or_other}
use Rattle.texts.specs.Asked.{IsOfCall}
use Rattle.replay.specs.MachineSteps.{Stepped, made_or_refused, exact_answer, answer_given}
use Rattle.replay.specs.MachineSteps.{stepped_exactly}
use Rattle.replay.proofs.MachineLemmas.{Law-answer, Law-too_long, with_compiled, compiles_by}

-- ---- a step as a run of one step

abbrev pub outcome_for : Step → Result Reply Refusal → Outcome
outcome_for step (Ok reply) = Done reply
outcome_for step (Err refusal) = Refused (record { refusal = refusal; step = step })

abbrev pub HasStepped : MachineState → Step → Stepped → Type 0
HasStepped old step comes = HasOutcome old step (outcome_for step comes.outcome) comes.after

refused : (old : MachineState) (step : Step) (refusal : Refusal)
    → stepped no_answer old step ≡ Err refusal
    → IsRefused old step (record { refusal = refusal; step = step }) old
refused old step refusal is = record {
  cause = subst (λ (made : Result Made Refusal). IsRefusalOf made refusal) (sym is) refl;
  unchanged = refl;
  back = refl;
}

-- a step that needs no answer from outside
plain : (old : MachineState) (step : Step)
    → ((reply : Reply) (new : MachineState)
    → stepped no_answer old step ≡ Ok (record { reply = reply; after = new })
    → Steps old step reply new)
    → HasStepped old step (made_or_refused old (stepped no_answer old step))
plain old step makes = go (stepped no_answer old step) refl
  where
    go : (made : Result Made Refusal) → stepped no_answer old step ≡ made
        → HasStepped old step (made_or_refused old made)
    go (Ok made) is = makes made.reply made.after is
    go (Err refusal) is = refused old step refusal is

-- ---- a compile

exact_right : Law-answer → Law-too_long → (limit : ℕ → ℕ) (duration : ℕ) → 0 < duration
    → IsCompiled limit duration (exact_schedule limit duration)
exact_right answer too_long limit duration some =
    go (nat_lt max_composite_periods (length (exact_periods limit duration))) refl
  where
    exact : CompositeSchedule
    exact = record { duration = duration; periods = exact_periods limit duration }

    either : Bool → Result CompositeSchedule Refusal
    either test = cond test (Err refusals.ResultTooLong) (Ok exact)

    go : (test : Bool)
        → nat_lt max_composite_periods (length (exact_periods limit duration)) ≡ test
        → IsCompiled limit duration (cond test (Err refusals.ResultTooLong) (Ok exact))
    go true is = (too_long limit duration some).1 (ap either is)
    go false is = (answer limit duration exact some).1 (ap either is)

kept_right : Law-answer → Law-too_long → (kept : Kept)
    → IsCompiledFor kept.book kept.ask (exact_answer (Some kept))
kept_right answer too_long kept =
    exact_right answer too_long
    (limit_asked (state_of kept.book) kept.ask.connector kept.ask.start) kept.ask.duration
    kept.ask.some

compile_has : Law-answer → Law-too_long → (old : MachineState) (number : ℕ) (kept : Kept)
    → request_of number old.requests ≡ Some kept
    → (has : Bool) → is_some kept.answer ≡ has
    → HasStepped old (acts.Compile number)
    (made_or_refused old (compiles_by has (with_compiled old number (exact_answer (Some kept)))))
compile_has answer too_long old number kept is true has =
    refused old (acts.Compile number) refusals.AlreadyAnswered
    (ap (λ (k : Option Kept). compiles_kept old number no_answer k) is
    ∙ ap (λ (b : Bool). compiles_by b (with_compiled old number no_answer)) has)
compile_has answer too_long old number kept is false has = record {
  kept = kept;
  is_kept = is;
  answer = exact_answer (Some kept);
  right = kept_right answer too_long kept;
  made =
      ap (λ (k : Option Kept). compiles_kept old number (exact_answer (Some kept)) k) is
      ∙ ap (λ (b : Bool). compiles_by b (with_compiled old number (exact_answer (Some kept)))) has;
}

compile_found : Law-answer → Law-too_long → (old : MachineState) (number : ℕ) (kept : Option Kept)
    → request_of number old.requests ≡ kept
    → HasStepped old (acts.Compile number)
    (made_or_refused old (compiles_kept old number (exact_answer kept) kept))
compile_found answer too_long old number None is =
    refused old (acts.Compile number) refusals.UnknownRequest
    (ap (λ (k : Option Kept). compiles_kept old number no_answer k) is)
compile_found answer too_long old number (Some kept) is =
    compile_has answer too_long old number kept is (is_some kept.answer) refl

-- ---- each step

pub steps_run : Law-answer → Law-too_long → (old : MachineState) (step : Step)
    → HasStepped old step (stepped_exactly old step)
unfolding stepped_exactly
steps_run answer too_long old step = by step (compile_or_other step)
  where
    by : (one : Step) → CompileOrOther one → HasStepped old one (stepped_exactly old one)
    by one (is_compile number) =
        compile_found answer too_long old number (request_of number old.requests) refl
    by one (is_other _ same _ makes) =
        subst (λ (made : Result Made Refusal). HasStepped old one (made_or_refused old made))
        (sym (same (answer_given old one) old))
        (plain old one (makes old))

-- ---- the steps other than Answer and Send

abbrev pub IsNoAnswer : Step → Type 0
IsNoAnswer (acts.Answer number) = ⊥
IsNoAnswer step = Unit {0}

abbrev pub IsNoSend : Step → Type 0
IsNoSend (acts.Send point link) = ⊥
IsNoSend step = Unit {0}

pub of_call_no_answer : (step : Step) → IsOfCall step → IsNoAnswer step × IsNoSend step
of_call_no_answer (acts.Answer number) never = absurd never
of_call_no_answer (acts.Send point link) never = absurd never
of_call_no_answer step is = (tt, tt)

-- ---- the steps that CALLs request, which hand out no schedule

abbrev pub HandsOutNone : Reply → Type 0
HandsOutNone (Answered book ask answer) = ⊥
HandsOutNone reply = Unit {0}

-- only an Answer's reply may hand one out
own_hands_out_none : (step : Step) (reply : Reply) → IsNoAnswer step
    → is_reply_to step reply ≡ true → HandsOutNone reply
own_hands_out_none (acts.Answer number) reply never own = absurd never
own_hands_out_none step (Answered book ask answer) none own = absurd (cc own)
own_hands_out_none step reply none own = tt

pub calls_hand_out_none : Law-answer → Law-too_long → RepliesAreTheirSteps
    → (old : MachineState) (step : Step) → IsOfCall step
    → IfOk (stepped_exactly old step).outcome HandsOutNone
calls_hand_out_none answer too_long own old step is =
    by (stepped_exactly old step).outcome (steps_run answer too_long old step)
  where
    after : MachineState
    after = (stepped_exactly old step).after

    by : (outcome : Result Reply Refusal) → HasOutcome old step (outcome_for step outcome) after
        → IfOk outcome HandsOutNone
    by (Ok reply) made =
        own_hands_out_none step reply (of_call_no_answer step is).0 (own old step reply after made)
    by (Err refusal) made = tt
