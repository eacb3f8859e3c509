-- The outcome of a step of the machine is its exact outcome, unless memory ran out.
use Rattle.std.proofs.Common.{◌≡◌, ◌↔◌, ℕ, ◌<◌, ◌==◌, List, [], ◌∷◌, cond, Bool, true, false, is_some, Option, Some, None, Result, Ok, Err, IfOk, refl, sym, ap, ◌∙◌}
use Rattle.ocpp_scalars.specs.declared.refusal.Refusal.{Refusal}
use Rattle.ocpp_scalars.specs.declared.refusal.Refusal.TheVariants.{ResultTooLong, OutOfMemory, AlreadyAnswered}
use Rattle.meaning.specs.declared.ask.Ask.{Ask}
use Rattle.meaning.specs.Composite.{CompositeSchedule}
use Rattle.meaning.specs.Limit.{limit_asked}
use Rattle.meaning.specs.Compiled.{IsExactAnswer, IsTooLong, IsPermitted}
use Rattle.meaning.specs.ByCases.Exact.{exact_schedule}
use Rattle.point_book.specs.Book.{BookState, state_of}
use Rattle.site_core.specs.declared.step.Step.{Step}
use Rattle.site_core.specs.declared.step.Step.TheVariants as steps
use Rattle.site_core.specs.declared.reply.Reply.{Reply}
use Rattle.site_core.specs.declared.reply.Reply.TheVariants.{Answered, Compiled, Nothing}
use Rattle.site_core.specs.State.{MachineState, Kept, ScheduleAnswer}
use Rattle.site_core.specs.Requests.{request_of, answered, with_answer}
use Rattle.site_core.specs.Right.{IsCompiledFor}
use Rattle.site_core.specs.Step.{Made, SendsNothing, unchanged, stepped, compiles_kept, answers, answers_kept, answers_with, cause_of, first_refusal, Steps, Compiles, no_answer}
use Rattle.replay.specs.MachineSteps.{Stepped, sending_of, sent_over, made_or_refused, exact_answer, answer_given, stepped_exactly, handed_out}
use Rattle.site_core.specs.Theory.Steps.{CompileOrOther, is_compile, is_other, compile_or_other}
use Rattle.replay.specs.ByCases.MachineSteps.{ComesOf, IsAsked, is_memory}

-- a made step that a message requests
made_exactly : (old : MachineState) (step : Step) (reply : Reply) (new : MachineState) → IsAsked step → Steps old step reply new
    → stepped_exactly old step ≡ record { outcome = Ok reply; after = new }
unfolding stepped_exactly
made_exactly old step reply new asked made = by step (compile_or_other step) asked made
  where
    by : (one : Step) → CompileOrOther one → IsAsked one → Steps old one reply new → stepped_exactly old one ≡ record { outcome = Ok reply; after = new }
    by one (is_compile number) is_asked makes = absurd is_asked
    by one (is_other _ same is_made _) is_asked makes =
        ap (made_or_refused old) (same (answer_given old one) old ∙ is_made old reply new makes)

-- the cause is that of the refusal
caused : (made : Result Made Refusal) (refusal : Refusal) → cause_of made ≡ Some refusal → made ≡ Err refusal
caused (Ok made) refusal e = absurd (cc)
caused (Err first) refusal e = cc

-- a made compile
abbrev pub with_compiled : MachineState → ℕ → ScheduleAnswer → Made
with_compiled old number answer = record { reply = Compiled; after = record old { requests = answered number answer old.requests } }

abbrev pub compiles_by : Bool → Made → Result Made Refusal
compiles_by b made = cond b (Err AlreadyAnswered) (Ok made)

-- whether a request can be compiled doesn't depend on the answer
other_answer : (b : Bool) (first second : Made) (refusal : Refusal) → cause_of (compiles_by b first) ≡ Some refusal → compiles_by b second ≡ Err refusal
other_answer true first second refusal e = cc
other_answer false first second refusal e = absurd (cc)

compile_refused : (old : MachineState) (number : ℕ) (answer : ScheduleAnswer) (kept : Option Kept) (refusal : Refusal)
    → cause_of (compiles_kept old number no_answer kept) ≡ Some refusal → compiles_kept old number answer kept ≡ Err refusal
compile_refused old number answer None refusal e = cc
compile_refused old number answer (Some kept) refusal e =
    other_answer (is_some kept.answer) (with_compiled old number no_answer) (with_compiled old number answer) refusal e

refused_exactly : (old : MachineState) (step : Step) (refusal : Refusal) → first_refusal old step ≡ Some refusal
    → stepped_exactly old step ≡ record { outcome = Err refusal; after = old }
unfolding stepped_exactly
refused_exactly old step refusal e = by step (compile_or_other step) e
  where
    by : (one : Step) → CompileOrOther one → first_refusal old one ≡ Some refusal → stepped_exactly old one ≡ record { outcome = Err refusal; after = old }
    by one (is_compile number) is =
        ap (made_or_refused old) (compile_refused old number (exact_answer (request_of number old.requests)) (request_of number old.requests) refusal is)
    by one (is_other _ same _ _) is = ap (made_or_refused old) (same (answer_given old one) old ∙ caused _ refusal is)

pub exactly : (old : MachineState) (step : Step) (outcome : Result Reply Refusal) (new : MachineState) → IsAsked step → ComesOf old step outcome new
    → stepped_exactly old step ≡ record { outcome = outcome; after = new }
exactly old step (Ok reply) new asked made = made_exactly old step reply new asked made
exactly old step (Err refusal) new asked made =
    refused_exactly old step refusal made.0 ∙ ap (λ (s : MachineState). record { outcome = Err refusal; after = s }) (sym made.1)

-- ---- compiling, and then answering

-- a made compile gives its answer to a request that has none
made_by : (b : Bool) (first made : Made) → compiles_by b first ≡ Ok made → (b ≡ false) × (first ≡ made)
made_by true first made e = absurd (cc)
made_by false first made e = (refl, cc)

compiled : (old : MachineState) (number : ℕ) (answer : ScheduleAnswer) (kept : Kept) (made : Made) → compiles_kept old number answer (Some kept) ≡ Ok made
    → (is_some kept.answer ≡ false) × (with_compiled old number answer ≡ made)
compiled old number answer kept made e = made_by (is_some kept.answer) (with_compiled old number answer) made e

-- the answered request is found again
found_again : (number : ℕ) (answer : ScheduleAnswer) (requests : List Kept) (kept : Kept) → request_of number requests ≡ Some kept
    → request_of number (answered number answer requests) ≡ Some (with_answer kept answer)
found_again number answer [] kept e = absurd (cc)
found_again number answer (one ∷ others) kept e =
    elim (one.number == number) as (λ b. (one.number == number) ≡ b → cond b (Some one) (request_of number others) ≡ Some kept
    → request_of number (cond b (with_answer one answer ∷ others) (one ∷ answered number answer others)) ≡ Some (with_answer kept answer)) [
      | true ↦ λ test here. let same : one ≡ kept = cc here in rw test (ap (λ (k : Kept). Some (with_answer k answer)) same)
      | false ↦ λ test here. rw test (found_again number answer others kept here)
    ] refl e

-- the result that an answered request hands out
handed_to : (mid : MachineState) (number : ℕ) (kept : Kept) (answer : ScheduleAnswer) (outcome : Result Reply Refusal) (new : MachineState)
    → request_of number mid.requests ≡ Some (with_answer kept answer) → ComesOf mid (steps.Answer number) outcome new
    → outcome ≡ Ok (Answered kept.book kept.ask answer)
handed_to mid number kept answer (Ok reply) new here made =
    let hands : Made = answers_with mid (with_answer kept answer) (Some answer) in
    let is : Ok hands ≡ Ok (record { reply = reply; after = new }) = ap (answers_kept mid) (sym here) ∙ made in
    let same : hands ≡ record { reply = reply; after = new } = cc is in
    ap (λ (m : Made). Ok m.reply) (sym same)
handed_to mid number kept answer (Err refusal) new here made =
    let none : cause_of (answers mid number) ≡ None = ap (λ (k : Option Kept). cause_of (answers_kept mid k)) here in
    absurd (cc (none, made.0))

abbrev pub Law-answer : Type 0
Law-answer = (limit : ℕ → ℕ) (duration : ℕ) (schedule : CompositeSchedule) → 0 < duration → IsExactAnswer limit duration schedule ↔ (exact_schedule limit duration ≡ Ok schedule)

abbrev pub Law-too_long : Type 0
Law-too_long = (limit : ℕ → ℕ) (duration : ℕ) → 0 < duration → IsTooLong limit duration ↔ (exact_schedule limit duration ≡ Err ResultTooLong)

-- a compiler's answer is the exact one, unless memory ran out
exact_refusal : (limit : ℕ → ℕ) (ask : Ask) (book : BookState) (refusal : Refusal) → IsPermitted limit ask.duration refusal → is_memory (Ok (Answered book ask (Err refusal))) ≡ false
    → Law-too_long → exact_schedule limit ask.duration ≡ Err refusal
exact_refusal limit ask book ResultTooLong permitted other law = (law limit ask.duration ask.some).0 permitted
exact_refusal limit ask book OutOfMemory permitted other law = absurd (cc)
exact_refusal limit ask book refusal permitted other law = absurd permitted

exact : (kept : Kept) (answer : ScheduleAnswer) → IsCompiledFor kept.book kept.ask answer → is_memory (Ok (Answered kept.book kept.ask answer)) ≡ false
    → Law-answer → Law-too_long → exact_answer (Some kept) ≡ answer
exact kept (Ok schedule) right other law-answer law-too_long =
    (law-answer (limit_asked (state_of kept.book) kept.ask.connector kept.ask.start) kept.ask.duration schedule kept.ask.some).0 right
exact kept (Err refusal) right other law-answer law-too_long =
    exact_refusal (limit_asked (state_of kept.book) kept.ask.connector kept.ask.start) kept.ask kept.book refusal right other law-too_long

-- a made compile leads to the state of the exact one
compiled_after : (old mid new : MachineState) (number : ℕ) (reply : Reply) (outcome : Result Reply Refusal) → Compiles old number reply mid
    → ComesOf mid (steps.Answer number) outcome new → is_memory outcome ≡ false → Law-answer → Law-too_long
    → (stepped_exactly old (steps.Compile number)).after ≡ mid
unfolding stepped_exactly
compiled_after old mid new number reply outcome by made other law-answer law-too_long =
    let makes = compiled old number by.answer by.kept (record { reply = reply; after = mid }) (ap (compiles_kept old number by.answer) (sym by.is_kept) ∙ by.made) in
    let again : request_of number mid.requests ≡ Some (with_answer by.kept by.answer) =
    ap (λ (m : Made). request_of number m.after.requests) (sym makes.1) ∙ found_again number by.answer old.requests by.kept by.is_kept in
    let hands = handed_to mid number by.kept by.answer outcome new again made in
    let same = exact by.kept by.answer by.right (ap is_memory (sym hands) ∙ other) law-answer law-too_long in
    rw (by.is_kept, makes.0, same) (ap (λ (m : Made). m.after) makes.1)

-- compiling and answering by the machine is handing out exactly, unless memory ran out
pub hands_out : (old mid new : MachineState) (number : ℕ) (first outcome : Result Reply Refusal) → ComesOf old (steps.Compile number) first mid
    → ComesOf mid (steps.Answer number) outcome new → is_memory outcome ≡ false → Law-answer → Law-too_long
    → handed_out old number ≡ record { outcome = outcome; after = new }
hands_out old mid new number (Ok reply) outcome compile made other law-answer law-too_long =
    ap (λ (s : MachineState). stepped_exactly s (steps.Answer number)) (compiled_after old mid new number reply outcome compile made other law-answer law-too_long)
    ∙ exactly mid (steps.Answer number) outcome new tt made
hands_out old mid new number (Err refusal) outcome compile made other law-answer law-too_long =
    ap (λ (s : Stepped). stepped_exactly s.after (steps.Answer number)) (refused_exactly old (steps.Compile number) refusal compile.0)
    ∙ ap (λ (s : MachineState). stepped_exactly s (steps.Answer number)) (sym compile.1)
    ∙ exactly mid (steps.Answer number) outcome new tt made

-- ---- sending

-- a Send that sends nothing, and one that isn't made
nothing_sent : (old : MachineState) (made : Result Made Refusal) → IfOk made (λ made. made ≡ unchanged old Nothing)
    → sending_of (made_or_refused old made) ≡ record { call = None; after = old }
nothing_sent old (Ok made) nothing = ap (λ (m : Made). sending_of (made_or_refused old (Ok m))) nothing
nothing_sent old (Err refusal) nothing = refl

-- if a Send over any link sends nothing, there is no sending
pub skipped : (old : MachineState) (point : List ℕ) (present : Option ℕ) → ((link : ℕ) → SendsNothing old point link)
    → sent_over present old point ≡ record { call = None; after = old }
unfolding stepped_exactly
skipped old point None nothing = refl
skipped old point (Some link) nothing = nothing_sent old (stepped no_answer old (steps.Send point link)) (nothing link)
