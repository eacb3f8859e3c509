-- A step that isn't about a request has the same effect if requests are forgotten.
use Rattle.std.proofs.Common.{◌≡◌, ℕ, Bool, true, false, cond, not, List, [], ◌∷◌, Option, Some, None, is_some, Result, Ok, Err, refl, sym, ap, ◌∙◌, subst}
use Rattle.std.specs.Prelude.{slice_set}
use Rattle.ocpp_scalars.specs.ResultSteps.{◌>>=◌}
use Rattle.ocpp_scalars.specs.declared.refusal.Refusal.{Refusal}
use Rattle.ocpp_scalars.specs.declared.refusal.Refusal.TheVariants.{AlreadyAnswered, Stopped, UnknownConnector}
use Rattle.transactions.specs.ActiveTable.{began}
use Rattle.transactions.specs.declared.active_table.Began.{Began}
use Rattle.transactions.specs.declared.active_table.Began.TheVariants.{Fresh, Repeat}
use Rattle.site_rules.specs.Site.{SiteState, place_of}
use Rattle.site_core.specs.declared.numbers.Numbers.{Numbers}
use Rattle.site_core.specs.declared.step.Step.{Step}
use Rattle.site_core.specs.declared.step.Step.TheVariants as steps
use Rattle.site_core.specs.declared.step.Take.{Take}
use Rattle.site_core.specs.declared.reply.Reply.{Reply}
use Rattle.site_core.specs.declared.reply.Reply.TheVariants as replies
use Rattle.site_core.specs.declared.reply.Reply.TheVariants.{Compiled, Finished}
use Rattle.site_core.specs.Ask.{ask_at}
use Rattle.site_core.specs.ChargePoint.{ChargePointState, Deed, point_after}
use Rattle.site_core.specs.Requests.{request_of, answered, all_stopped}
use Rattle.site_core.specs.State.{MachineState, Kept, ScheduleAnswer, point_at, book_at}
use Rattle.site_core.specs.Step.{Made, PointStep, at_point, over_link, of_audit, starts_as, is_at_no_connector, Work, AtPoint, work, Works, Steps, deed, drawn, done_at, made_at, made_there, found_place, place_for, unless, refusal_to_take, takes, taking, compiles_kept, answers_kept, answers_with, finishes}
use Rattle.site_core.specs.History.{Event, Legal}
use Rattle.site_core.specs.Theory.Steps.{StepKind, kind_of, names_point, takes_one, compiles_one, answers_one, finishes_all}
use Rattle.version_store.specs.Recording.{forget, is_of_request}
use Rattle.version_store.specs.Theory.Forgetting.{led, taken_forgotten, compiled_forgotten, answered_forgotten, not_of_request}
use Rattle.journal.specs.Forgetting.{without_requests, ForgettingKeepsChanges}

abbrev no_request : Numbers → Numbers
no_request numbers = record numbers { request = 0 }

abbrev made_with : Reply → MachineState → Made
made_with reply after = record { reply = reply; after = after }

abbrev ok : Made → Result Made Refusal
ok made = Ok made

-- ---- a step at a point

record IsSameThere (at : PointStep) : Type 0 where
  decided : (site : SiteState) (numbers : Numbers) (point : ChargePointState)
      → at.decided site (no_request numbers) point ≡ at.decided site numbers point
  found : (old : MachineState) (found : Option ℕ)
      → found_place (forget old) at.via found ≡ found_place old at.via found

abbrev IsSame : Work → Type 0
IsSame (AtPoint at) = IsSameThere at
IsSame other = Unit {0}

-- the ways in which steps find their point: by its name, over a link, and by its audit
abbrev by_name : PointStep
by_name = at_point [] (λ site numbers point. Err UnknownConnector)

abbrev by_link : ℕ → PointStep
by_link link = over_link [] link (λ point. Err UnknownConnector)

abbrev by_audit : PointStep
by_audit = of_audit [] (λ point. Err UnknownConnector)

abbrev FindsSame : PointStep → Type 0
FindsSame at = (old : MachineState) (found : Option ℕ)
    → found_place (forget old) at.via found ≡ found_place old at.via found

named_same : FindsSame by_name
named_same old None = refl
named_same old (Some place) = refl

linked_same : (link : ℕ) → FindsSame (by_link link)
linked_same link old None = refl
linked_same link old (Some place) = refl

audited_same : FindsSame by_audit
audited_same old None = refl
audited_same old (Some place) = refl

start_same : (began : Began) (numbers : Numbers)
    → starts_as began (no_request numbers) ≡ starts_as began numbers
start_same Fresh numbers = refl
start_same (Repeat number) numbers = refl

-- no step depends on requests, or on their numbers
step_same : (step : Step) → IsSame (work step)
step_same (steps.Take take) = tt
step_same (steps.Compile number) = tt
step_same (steps.Answer number) = tt
step_same steps.Finish = tt
step_same (steps.Start id connector begin) = record {
  decided = λ site numbers point.
      ap (λ (r : Result Reply Refusal). cond (is_at_no_connector point connector) (Err UnknownConnector) r)
      (start_same (began point.book.transactions connector begin) numbers);
  found = named_same;
}
step_same (steps.Send id link) = record { decided = λ site numbers point. refl; found = linked_same link }
step_same (steps.Confirm id link number accepted) =
    record { decided = λ site numbers point. refl; found = linked_same link }
step_same (steps.Lost id link) = record { decided = λ site numbers point. refl; found = linked_same link }
step_same (steps.Judge id number judged) =
    record { decided = λ site numbers point. refl; found = audited_same }
step_same step = record { decided = λ site numbers point. refl; found = named_same }

-- no step at a point takes a request
abbrev is_taken : Reply → Bool
is_taken (replies.Taken number book ask) = true
is_taken other = false

no_deed : (point : ChargePointState) (step : Step) (reply : Reply) → is_taken reply ≡ true
    → deed point step reply ≡ None
no_deed point (steps.Take take) (replies.Taken number book ask) is = refl
no_deed point step (replies.Taken number book ask) is = refl
no_deed point step reply is = absurd (cc is)

done_same : (old : MachineState) (place : ℕ) (reply : Reply) (deed : Option Deed)
    → drawn reply (no_request old.numbers) ≡ no_request (drawn reply old.numbers)
    → done_at (forget old) place reply deed
    ≡ made_with reply (forget (done_at old place reply deed).after)
done_same old place reply None same = refl
done_same old place reply (Some deed) same =
    ap (λ (numbers : Numbers). made_with reply (record (forget old) {
      points = slice_set old.points place (point_after (point_at old place) deed);
      numbers = numbers;
    })) same

done_nothing : (old : MachineState) (place : ℕ) (reply : Reply) (deed : Option Deed) → deed ≡ None
    → done_at (forget old) place reply deed
    ≡ made_with reply (forget (done_at old place reply deed).after)
done_nothing old place reply None is = refl
done_nothing old place reply (Some deed) is = absurd (cc is)

made_same : (old : MachineState) (step : Step) (place : ℕ) (reply : Reply)
    → made_at (forget old) step place reply
    ≡ made_with reply (forget (made_at old step place reply).after)
made_same old step place (replies.Taken number book ask) =
    done_nothing old place (replies.Taken number book ask)
    (deed (point_at old place) step (replies.Taken number book ask))
    (no_deed (point_at old place) step (replies.Taken number book ask) refl)
made_same old step place reply =
    done_same old place reply (deed (point_at old place) step reply) refl

done_reply : (old : MachineState) (place : ℕ) (reply : Reply) (deed : Option Deed)
    → (done_at old place reply deed).reply ≡ reply
done_reply old place reply None = refl
done_reply old place reply (Some deed) = refl

-- the outcome of a step at a point
pub there_same : (old : MachineState) (step : Step) (at : PointStep) → work step ≡ AtPoint at
    → (reply : Reply) (new : MachineState) → made_there old step at ≡ Ok (made_with reply new)
    → made_there (forget old) step at ≡ Ok (made_with reply (forget new))
there_same old step at is reply new made =
    let decide = λ (place : ℕ). at.decided old.site old.numbers (point_at old place) in
    let make = λ (place : ℕ) (reply : Reply). ok (made_at old step place reply) in
    let placed = led (place_for old at.point at.via) (λ place. decide place >>= make place)
    (made_with reply new) made in
    let place = placed.a in
    let replied = led (decide place) (make place) (made_with reply new) placed.then in
    let same = subst IsSame is (step_same step) in
    let one : made_at old step place replied.a ≡ made_with reply new = cc replied.then in
    let its_own : replied.a ≡ reply =
    sym (done_reply old place replied.a (deed (point_at old place) step replied.a))
    ∙ ap (λ (m : Made). m.reply) one in
    ap (λ (r : Result ℕ Refusal). r >>= (λ (place : ℕ).
    at.decided old.site (no_request old.numbers) (point_at old place)
    >>= (λ (reply : Reply). ok (made_at (forget old) step place reply))))
    (ap (λ (found : Result ℕ Refusal). cond old.is_stopped (Err Stopped) found)
    (same.found old (place_of old.site at.point)) ∙ placed.is)
    ∙ ap (λ (r : Result Reply Refusal).
    r >>= (λ (reply : Reply). ok (made_at (forget old) step place reply)))
    (same.decided old.site old.numbers (point_at old place) ∙ replied.is)
    ∙ ap (λ (m : Made). ok m) (made_same old step place replied.a)
    ∙ ap (λ (m : Made). ok (made_with replied.a (forget m.after))) one
    ∙ ap (λ (r : Reply). ok (made_with r (forget new))) its_own

-- ---- the end

finish_by : (old : MachineState) (stopped : Bool) → old.is_stopped ≡ stopped
    → cond stopped (made_with Finished (forget old)) (made_with Finished (record (forget old) {
      requests = all_stopped [];
      is_stopped = true;
    }))
    ≡ made_with Finished (forget (cond stopped (made_with Finished old) (made_with Finished
    (record old { requests = all_stopped old.requests; is_stopped = true }))).after)
finish_by old true is = refl
finish_by old false is = refl

finish_is : (old : MachineState)
    → finishes (forget old) ≡ made_with Finished (forget (finishes old).after)
finish_is old = finish_by old old.is_stopped refl

finish_reply : (old : MachineState) (stopped : Bool)
    → (cond stopped (made_with Finished old) (made_with Finished
    (record old { requests = all_stopped old.requests; is_stopped = true }))).reply ≡ Finished
finish_reply old true = refl
finish_reply old false = refl

finished_same : (old : MachineState) (reply : Reply) (new : MachineState)
    → ok (finishes old) ≡ ok (made_with reply new)
    → ok (finishes (forget old)) ≡ ok (made_with reply (forget new))
finished_same old reply new is =
    let one : finishes old ≡ made_with reply new = cc is in
    let its_own : Finished ≡ reply =
    sym (finish_reply old old.is_stopped) ∙ ap (λ (m : Made). m.reply) one in
    ap ok (finish_is old ∙ ap (λ (m : Made). made_with Finished (forget m.after)) one
    ∙ ap (λ (r : Reply). made_with r (forget new)) its_own)

-- ---- histories

abbrev event_of : Step → Reply → Event
event_of step reply = record { step = step; reply = reply }

next : (old middle : MachineState) (step : Step) (reply : Reply) (rest : List Event)
    (new : MachineState) → StepKind step → Steps old step reply middle
    → Legal (forget middle) rest new
    → Legal (forget old) (cond (not (is_of_request step)) (event_of step reply ∷ rest) rest) new
next old middle step reply rest new (names_point _ at is) made legal =
    let there = there_same old step at is reply middle (subst (λ (w : Work). Works old step w reply middle) is made) in
    rw (not_of_request step at is) (
      forget middle,
      subst (λ (w : Work). Works (forget old) step w reply (forget middle)) (sym is) there,
      legal,
    )
next old middle _ reply rest new (takes_one take) made legal =
    subst (λ (s : MachineState). Legal s rest new)
    (taken_forgotten old take (made_with reply middle) made) legal
next old middle _ reply rest new (compiles_one number) made legal =
    subst (λ (s : MachineState). Legal s rest new)
    (compiled_forgotten old number made.answer (request_of number old.requests)
    (made_with reply middle) made.made) legal
next old middle _ reply rest new (answers_one number) made legal =
    subst (λ (s : MachineState). Legal s rest new)
    (answered_forgotten old (request_of number old.requests) (made_with reply middle) made) legal
next old middle _ reply rest new finishes_all made legal =
    (forget middle, finished_same old reply middle made, legal)

pub forgetting : ForgettingKeepsChanges
forgetting old new [] legal = ap forget legal
forgetting old new (event ∷ later) legal =
    next old legal.0 event.step event.reply (without_requests later) (forget new)
    (kind_of event.step) legal.1 (forgetting legal.0 new later legal.2)
