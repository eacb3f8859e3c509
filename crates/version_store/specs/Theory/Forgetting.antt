-- Lemmas that crates above cite: steps about requests for schedules lead to the same state, except
-- for requests.
use Rattle.std.proofs.Common.{◌≡◌, ℕ, Bool, true, false, cond, [], Option, Some, None, is_some, Result, Ok, Err, refl, sym, ap, ◌∙◌}
use Rattle.ocpp_scalars.specs.ResultSteps.{◌>>=◌}
use Rattle.ocpp_scalars.specs.declared.refusal.Refusal.{Refusal}
use Rattle.ocpp_scalars.specs.declared.refusal.Refusal.TheVariants.{AlreadyAnswered, UnknownConnector}
use Rattle.site_core.specs.declared.step.Step.{Step}
use Rattle.site_core.specs.declared.step.Step.TheVariants as steps
use Rattle.site_core.specs.declared.step.Take.{Take}
use Rattle.site_core.specs.declared.reply.Reply.{Reply}
use Rattle.site_core.specs.declared.reply.Reply.TheVariants.{Compiled}
use Rattle.site_core.specs.Ask.{ask_at}
use Rattle.site_core.specs.Requests.{request_of, answered}
use Rattle.site_core.specs.State.{MachineState, Kept, ScheduleAnswer, book_at}
use Rattle.site_core.specs.Step.{Made, PointStep, at_point, AtPoint, work, place_for, unless, refusal_to_take, takes, taking, compiles_kept, answers_kept, answers_with, stepped}
use Rattle.site_core.specs.Theory.Steps.{StepKind, kind_of, names_point, takes_one, compiles_one, answers_one, finishes_all}
use Rattle.version_store.specs.Recording.{RequestLeads, forget, is_of_request}

-- ---- results, step by step

pub record Led {A B E : Type 0} (first : Result A E) (next : A → Result B E) (b : B) : Type 0 where
  pub a : A
  pub is : first ≡ Ok a
  pub then : next a ≡ Ok b

pub led : {A B E : Type 0} (first : Result A E) (next : A → Result B E) (b : B)
    → (first >>= next) ≡ Ok b → Led first next b
led (Ok a) next b is = record { a = a; is = refl; then = is }
led (Err e) next b is = absurd (cc is)

unless_ok : {X : Type 0} (refusal : Option Refusal) (x y : X) → unless refusal x ≡ Ok y → x ≡ y
unless_ok None x y is = cc is
unless_ok (Some refusal) x y is = absurd (cc is)

abbrev made_with : Reply → MachineState → Made
made_with reply after = record { reply = reply; after = after }

abbrev ok : Made → Result Made Refusal
ok made = Ok made

-- a step that comes to its point by the point's name
abbrev by_name : PointStep
by_name = at_point [] (λ site numbers point. Err UnknownConnector)

-- ---- steps that are about a request

pub taken_forgotten : (old : MachineState) (take : Take) (made : Made) → takes old take ≡ Ok made
    → forget made.after ≡ forget old
taken_forgotten old take made is =
    let ask = λ (place : ℕ). ask_at old.site.unit (book_at old place) take in
    let placed = led (place_for old take.point by_name.via) (λ place. ask place >>= (λ a. unless (refusal_to_take old take) (taking old place a))) made is in
    let asked = led (ask placed.a) (λ a. unless (refusal_to_take old take) (taking old placed.a a)) made placed.then in
    ap (λ (m : Made). forget m.after)
    (sym (unless_ok (refusal_to_take old take) (taking old placed.a asked.a) made asked.then))

same_after : (old : MachineState) (one made : Made) → forget one.after ≡ forget old
    → ok one ≡ ok made → forget made.after ≡ forget old
same_after old one made forgotten is =
    let same : one ≡ made = cc is in
    ap (λ (m : Made). forget m.after) (sym same) ∙ forgotten

pub compiled_forgotten : (old : MachineState) (number : ℕ) (answer : ScheduleAnswer)
    (found : Option Kept) (made : Made) → compiles_kept old number answer found ≡ ok made
    → forget made.after ≡ forget old
compiled_forgotten old number answer None made is = absurd (cc is)
compiled_forgotten old number answer (Some kept) made is = go (is_some kept.answer) is
  where
    go : (before : Bool)
        → cond before (Err AlreadyAnswered)
        (ok (made_with Compiled (record old { requests = answered number answer old.requests })))
        ≡ ok made
        → forget made.after ≡ forget old
    go true is = absurd (cc is)
    go false is = same_after old (made_with Compiled
        (record old { requests = answered number answer old.requests })) made refl is

pub answered_forgotten : (old : MachineState) (found : Option Kept) (made : Made)
    → answers_kept old found ≡ ok made → forget made.after ≡ forget old
answered_forgotten old None made is = absurd (cc is)
answered_forgotten old (Some kept) made is = go kept.answer is
  where
    go : (answer : Option ScheduleAnswer) → ok (answers_with old kept answer) ≡ ok made
        → forget made.after ≡ forget old
    go None is = same_after old (answers_with old kept None) made refl is
    go (Some answer) is = same_after old (answers_with old kept (Some answer)) made refl is

pub not_of_request : (step : Step) (at : PointStep) → work step ≡ AtPoint at
    → is_of_request step ≡ false
not_of_request (steps.Take take) at is = absurd (cc is)
not_of_request (steps.Compile number) at is = absurd (cc is)
not_of_request (steps.Answer number) at is = absurd (cc is)
not_of_request step at is = refl

-- ---- all of them

request_made : (old : MachineState) (answer : ScheduleAnswer) (step : Step) (made : Made)
    → StepKind step → is_of_request step ≡ true → stepped answer old step ≡ Ok made
    → forget made.after ≡ forget old
request_made old answer step made (names_point _ at is) request leads =
    absurd (cc (request, not_of_request step at is))
request_made old answer _ made (takes_one take) request leads = taken_forgotten old take made leads
request_made old answer _ made (compiles_one number) request leads =
    compiled_forgotten old number answer (request_of number old.requests) made leads
request_made old answer _ made (answers_one number) request leads =
    answered_forgotten old (request_of number old.requests) made leads
request_made old answer _ made finishes_all request leads = absurd (cc request)

pub request_forgotten : (old new : MachineState) → RequestLeads old new → forget new ≡ forget old
request_forgotten old new leads =
    request_made old leads.stored.answer leads.stored.step
    (record { reply = leads.reply; after = new }) (kind_of leads.stored.step) leads.request leads.made
