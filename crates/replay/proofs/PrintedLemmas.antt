-- The output, found again in the run that the script is.
use Rattle.std.proofs.Common.{◌≡◌, ◌⊎◌, inl, inr, ℕ, suc, Bool, true, false, cond, List, [], ◌∷◌}
use Rattle.std.proofs.Common.{◌++◌, take, slice_get, append-nil, Some, Ok, Err, refl, sym, ap, ◌∙◌}
use Rattle.std.proofs.Common.{subst}
use Rattle.std.specs.List.{flat_map}
use Rattle.std.proofs.lemmas.Grind.{flat_map-append}
use Rattle.profile.specs.declared.unit.Unit.{Unit}
use Rattle.meaning.specs.declared.ask.Ask.{Ask}
use Rattle.meaning.specs.Composite.{CompositeSchedule}
use Rattle.messages.specs.declared.call.Call.{Call}
use Rattle.messages.specs.declared.response.ScheduleResponse.{ScheduleResponse}
use Rattle.messages.specs.declared.response.Response.TheVariants as responses
use Rattle.site_rules.specs.Site.{SiteState}
use Rattle.point_book.specs.Book.{BookState}
use Rattle.site_core.specs.declared.step.Step.{Step}
use Rattle.site_core.specs.declared.step.Step.TheVariants as acts
use Rattle.site_core.specs.declared.reply.Reply.{Reply}
use Rattle.site_core.specs.declared.reply.Reply.TheVariants.{Answered, Sent}
use Rattle.site_core.specs.declared.outcome.Outcome.{Outcome}
use Rattle.site_core.specs.declared.outcome.Outcome.TheVariants.{Done, Refused}
use Rattle.site_core.specs.State.{opening}
use Rattle.site_core.specs.History.{Event, history_of}
use Rattle.site_core.specs.Headline.{AnswersAreRight}
use Rattle.site_core.specs.CallOrder.{is_at, names, events_at, calls_sent}
use Rattle.site_core.specs.CallOrder as order
use Rattle.replay.specs.PrintedLine.{PrintedLine}
use Rattle.replay.specs.declared.script.printed_line.PrintedLine.TheVariants as lines
use Rattle.replay.specs.Run.{lines_of}
use Rattle.replay.proofs.ScriptRunLemmas.{Laws, script_part}
use Rattle.replay.specs.ScriptRun.{schedules_on, schedules_printed, response_of_schedule, schedules_by}
use Rattle.replay.specs.ScriptRun.{schedules_answered, calls_printed, calls_of_step, calls_of_event}
use Rattle.replay.specs.ScriptRun.{calls_replied, calls_printed_to, ScriptRun, IsPrintedRight}

-- ---- the Answer of a schedule

-- a step that handed out a schedule
record HandsOut (unit : Unit) (step : Step) (reply : Reply) : Type 0 where
  pub number : ℕ
  pub book : BookState
  pub ask : Ask
  pub schedule : CompositeSchedule
  pub step_is : step ≡ acts.Answer number
  pub reply_is : reply ≡ Answered book ask (Ok schedule)
  pub schedules_are : schedules_by unit step reply ≡ response_of_schedule unit ask schedule ∷ []

answer_hands_out : (unit : Unit) (number : ℕ) (reply : Reply)
    → (schedules_by unit (acts.Answer number) reply ≡ [])
    ⊎ HandsOut unit (acts.Answer number) reply
answer_hands_out unit number (Answered book ask (Ok schedule)) = inr (record {
  number = number;
  book = book;
  ask = ask;
  schedule = schedule;
  step_is = refl;
  reply_is = refl;
  schedules_are = refl;
})
answer_hands_out unit number (Answered book ask (Err refusal)) = inl refl
answer_hands_out unit number reply = inl refl

hands_out_or_not : (unit : Unit) (step : Step) (reply : Reply)
    → (schedules_by unit step reply ≡ []) ⊎ HandsOut unit step reply
hands_out_or_not unit (acts.Answer number) reply = answer_hands_out unit number reply
hands_out_or_not unit step reply = inl refl

-- the Answer that handed out the schedule after the earlier ones
record IsHandedAt (unit : Unit) (steps : List Step) (outcomes : List Outcome)
    (earlier : List ScheduleResponse) (response : ScheduleResponse) : Type 0 where
  pub position : ℕ
  pub number : ℕ
  pub book : BookState
  pub ask : Ask
  pub schedule : CompositeSchedule
  pub answers : slice_get steps position ≡ Some (acts.Answer number)
  pub handed : slice_get outcomes position ≡ Some (Done (Answered book ask (Ok schedule)))
  pub is : response ≡ response_of_schedule unit ask schedule
  pub before :
      earlier ≡ schedules_answered unit (history_of (take position steps) (take position outcomes))

-- with one more step before it
later : (unit : Unit) (step : Step) (steps : List Step) (outcome : Outcome)
    (outcomes : List Outcome) (front earlier : List ScheduleResponse) (response : ScheduleResponse)
    → ((n : ℕ)
    → schedules_answered unit (history_of (step ∷ take n steps) (outcome ∷ take n outcomes))
    ≡ front ++ schedules_answered unit (history_of (take n steps) (take n outcomes)))
    → IsHandedAt unit steps outcomes earlier response
    → IsHandedAt unit (step ∷ steps) (outcome ∷ outcomes) (front ++ earlier) response
later unit step steps outcome outcomes front earlier response first rest = record {
  position = suc rest.position;
  number = rest.number;
  book = rest.book;
  ask = rest.ask;
  schedule = rest.schedule;
  answers = rest.answers;
  handed = rest.handed;
  is = rest.is;
  before = ap (λ l. front ++ l) rest.before ∙ sym (first rest.position);
}

nil_is_not : {A : Type 0} (earlier : List A) (x : A) (after : List A)
    → [] ≡ earlier ++ x ∷ after → ⊥
nil_is_not [] x after is = cc
nil_is_not (y ∷ earlier) x after is = cc

found_here : (unit : Unit) (step : Step) (steps : List Step) (reply : Reply)
    (outcomes : List Outcome) (response : ScheduleResponse) → (hands : HandsOut unit step reply)
    → response ≡ response_of_schedule unit hands.ask hands.schedule
    → IsHandedAt unit (step ∷ steps) (Done reply ∷ outcomes) [] response
found_here unit step steps reply outcomes response hands is = record {
  position = 0;
  number = hands.number;
  book = hands.book;
  ask = hands.ask;
  schedule = hands.schedule;
  answers = ap (λ (s : Step). Some s) hands.step_is;
  handed = ap (λ (r : Reply). Some (Done r)) hands.reply_is;
  is = is;
  before = refl;
}

-- each schedule that a run hands out, at any position, has its Answer
abbrev AreHanded : Unit → List Step → List Outcome → Type 0
AreHanded unit steps outcomes =
    (earlier : List ScheduleResponse) (response : ScheduleResponse) (after : List ScheduleResponse)
    → schedules_answered unit (history_of steps outcomes) ≡ earlier ++ response ∷ after
    → IsHandedAt unit steps outcomes earlier response

-- after a step that handed one out
after_handed : (unit : Unit) (step : Step) (steps : List Step) (reply : Reply)
    (outcomes : List Outcome) → AreHanded unit steps outcomes → (hands : HandsOut unit step reply)
    → (earlier : List ScheduleResponse) (response : ScheduleResponse) (after : List ScheduleResponse)
    → response_of_schedule unit hands.ask hands.schedule
    ∷ schedules_answered unit (history_of steps outcomes) ≡ earlier ++ response ∷ after
    → IsHandedAt unit (step ∷ steps) (Done reply ∷ outcomes) earlier response
after_handed unit step steps reply outcomes rest hands [] response after is =
    let first : response ≡ response_of_schedule unit hands.ask hands.schedule = cc is in
    found_here unit step steps reply outcomes response hands first
after_handed unit step steps reply outcomes rest hands (one ∷ earlier) response after is =
    let handed = response_of_schedule unit hands.ask hands.schedule in
    let first : handed ≡ one = cc is in
    let others : schedules_answered unit (history_of steps outcomes) ≡ earlier ++ response ∷ after =
    cc is in
    subst (λ (s : ScheduleResponse).
    IsHandedAt unit (step ∷ steps) (Done reply ∷ outcomes) (s ∷ earlier) response) first
    (later unit step steps (Done reply) outcomes (handed ∷ []) earlier response
    (λ n. ap (λ l. l ++ schedules_answered unit (history_of (take n steps) (take n outcomes)))
    hands.schedules_are)
    (rest earlier response after others))

-- after a step that was made
after_made : (unit : Unit) (step : Step) (steps : List Step) (reply : Reply)
    (outcomes : List Outcome) → AreHanded unit steps outcomes
    → (schedules_by unit step reply ≡ []) ⊎ HandsOut unit step reply
    → AreHanded unit (step ∷ steps) (Done reply ∷ outcomes)
after_made unit step steps reply outcomes rest (inl none) earlier response after is =
    let others = schedules_answered unit (history_of steps outcomes) in
    later unit step steps (Done reply) outcomes [] earlier response
    (λ n. ap (λ l. l ++ schedules_answered unit (history_of (take n steps) (take n outcomes))) none)
    (rest earlier response after (ap (λ l. l ++ others) (sym none) ∙ is))
after_made unit step steps reply outcomes rest (inr hands) earlier response after is =
    let others = schedules_answered unit (history_of steps outcomes) in
    after_handed unit step steps reply outcomes rest hands earlier response after
    (ap (λ l. l ++ others) (sym hands.schedules_are) ∙ is)

found : (unit : Unit) (steps : List Step) (outcomes : List Outcome)
    → AreHanded unit steps outcomes
found unit [] outcomes earlier response after is = absurd (nil_is_not earlier response after is)
found unit (step ∷ steps) [] earlier response after is = absurd (nil_is_not earlier response after is)
found unit (step ∷ steps) (Refused refused ∷ outcomes) earlier response after is =
    later unit step steps (Refused refused) outcomes [] earlier response (λ n. refl)
    (found unit steps outcomes earlier response after is)
found unit (step ∷ steps) (Done reply ∷ outcomes) earlier response after is =
    after_made unit step steps reply outcomes
    (λ front one others same. found unit steps outcomes front one others same)
    (hands_out_or_not unit step reply) earlier response after is

-- each schedule that is printed is right
pub printed_right : (site : SiteState) (script : List ℕ) (run : ScriptRun site script)
    → AnswersAreRight (opening site) run.steps run.outcomes
    → (earlier after : List PrintedLine) (id : List ℕ) (response : ScheduleResponse)
    → lines_of site script ≡ earlier ++ lines.Answer id (responses.Schedule response) ∷ after
    → IsPrintedRight site script run earlier response
printed_right site script run are_right earlier after id response is =
    let at = found site.unit run.steps run.outcomes (schedules_printed earlier) response
    (schedules_printed after)
    (sym run.schedules ∙ (ap schedules_printed is
    ∙ flat_map-append schedules_on earlier
    (lines.Answer id (responses.Schedule response) ∷ after))) in
    record {
      position = at.position;
      number = at.number;
      answers = at.answers;
      book = at.book;
      ask = at.ask;
      schedule = at.schedule;
      handed = at.handed;
      is = at.is;
      before = at.before;
      right =
          are_right at.position at.number at.book at.ask (Ok at.schedule) at.answers at.handed;
    }

-- ---- the calls for one point

abbrev call_for_place : SiteState → ℕ → List ℕ × Call → List Call
call_for_place site place sent = cond (is_at site place sent.0) (sent.1 ∷ []) []

abbrev for_place : SiteState → ℕ → List (List ℕ × Call) → List Call
for_place site place calls = flat_map (call_for_place site place) calls

printed_for : (site : SiteState) (place : ℕ) (printed : List PrintedLine)
    → calls_printed_to site place printed ≡ for_place site place (calls_printed printed)
printed_for site place [] = refl
printed_for site place (lines.Answer id response ∷ others) = printed_for site place others
printed_for site place (lines.Call point call ∷ others) =
    ap (λ l. cond (is_at site place point) (call ∷ []) [] ++ l) (printed_for site place others)
printed_for site place (lines.Held number ∷ others) = printed_for site place others
printed_for site place (lines.Fault number fault ∷ others) = printed_for site place others

-- an event that sends nothing, whether it is one of a point or not
no_call : (test : Bool) (event : Event) (others : List Event) → order.calls_by_event event ≡ []
    → flat_map order.calls_by_event (cond test (event ∷ others) others)
    ≡ flat_map order.calls_by_event others
no_call true event others none = ap (λ l. l ++ flat_map order.calls_by_event others) none
no_call false event others none = refl

-- an event that sends a call
a_call : (test : Bool) (event : Event) (call : Call) (others : List Event)
    → order.calls_by_event event ≡ call ∷ []
    → flat_map order.calls_by_event (cond test (event ∷ others) others)
    ≡ cond test (call ∷ []) [] ++ flat_map order.calls_by_event others
a_call true event call others one = ap (λ l. l ++ flat_map order.calls_by_event others) one
a_call false event call others one = refl

sent_more : (site : SiteState) (place : ℕ) (step : Step) (reply : Reply) (named : List Event)
    → flat_map order.calls_by_event
    (cond (names site place step) (record { step = step; reply = reply } ∷ named) named)
    ≡ for_place site place (calls_of_step step reply) ++ flat_map order.calls_by_event named
sent_more site place (acts.Send point link) (Sent call) named =
    a_call (is_at site place point) (record { step = acts.Send point link; reply = Sent call }) call
    named refl
    ∙ ap (λ l. l ++ flat_map order.calls_by_event named)
    (sym (append-nil (cond (is_at site place point) (call ∷ []) [])))
sent_more site place (acts.Send point link) reply named =
    no_call (is_at site place point) (record { step = acts.Send point link; reply = reply }) named
    refl
sent_more site place step reply named =
    no_call (names site place step) (record { step = step; reply = reply }) named refl

sent_for : (site : SiteState) (place : ℕ) (history : List Event)
    → calls_sent site place history ≡ for_place site place (calls_replied history)
sent_for site place [] = refl
sent_for site place (event ∷ others) =
    sent_more site place event.step event.reply (events_at site place others)
    ∙ (ap (λ l. for_place site place (calls_of_event event) ++ l) (sent_for site place others)
    ∙ sym (flat_map-append (call_for_place site place) (calls_of_event event)
    (calls_replied others)))

-- the calls that are printed for a point are those that are sent to it
pub calls_of_place : (site : SiteState) (place : ℕ) (printed : List PrintedLine)
    (history : List Event) → calls_printed printed ≡ calls_replied history
    → calls_printed_to site place printed ≡ calls_sent site place history
calls_of_place site place printed history same =
    printed_for site place printed
    ∙ (ap (for_place site place) same ∙ sym (sent_for site place history))

-- ---- the whole script

pub script_run : Laws → (site : SiteState) (script : List ℕ) → ScriptRun site script
script_run laws site script =
    let part = script_part laws site script in
    record {
      steps = part.steps;
      outcomes = part.outcomes;
      run = part.run;
      schedules = part.schedules;
      calls = part.calls;
      calls_to_place =
          λ place. calls_of_place site place (lines_of site script)
          (history_of part.steps part.outcomes) part.calls;
    }
