-- Every kept request comes from one Take of its number, with its book and its `Ask`.
use Rattle.std.proofs.Common.{◌≡◌, ℕ, zero, ◌+◌, ◌<◌, ◌≤◌, ◌==◌, Bool, true, false, cond, List, [], ◌∷◌, ◌++◌, take, append_assoc, append-nil, Option, Some, None, Result, Ok, Err, unwrap_or, refl, sym, ap, ◌∙◌, subst, arith}
use Rattle.std.proofs.Common.{inl, inr}
use Rattle.std.specs.Prelude.{IfOk, IfSome, ◌⊎◌}
use Rattle.std.specs.List.{AllByRecursion, Contains}
use Rattle.std.proofs.lemmas.List.Elements.{Contains-append_left, Contains-append_right, Contains-push}
use Rattle.std.proofs.lemmas.Bool.Decides.{nat_tests}
use Rattle.ocpp_scalars.specs.declared.refusal.Refusal.{Refusal}
use Rattle.ocpp_scalars.specs.declared.refusal.Refusal.TheVariants.{Stopped}
use Rattle.meaning.specs.declared.ask.Ask.{Ask}
use Rattle.site_rules.specs.Site.{SiteState, place_of}
use Rattle.point_book.specs.Book.{BookState}
use Rattle.site_core.specs.declared.step.Step.{Step}
use Rattle.site_core.specs.declared.step.Step.TheVariants as steps
use Rattle.site_core.specs.declared.step.Take.{Take}
use Rattle.site_core.specs.declared.reply.Reply.TheVariants.{Answered, NotYet}
use Rattle.site_core.specs.declared.outcome.Outcome.{Outcome}
use Rattle.site_core.specs.declared.outcome.Outcome.TheVariants.{Done}
use Rattle.site_core.specs.State.{MachineState, Kept, ScheduleAnswer, book_at}
use Rattle.site_core.specs.Theory.Requests.{found_number, found_holds}
use Rattle.site_core.specs.Requests.{request_of, with_answer, answered, without, stopped_request, all_stopped}
use Rattle.site_core.specs.Right.{IsCompiledFor, IsRight}
use Rattle.site_core.specs.Ask.{ask_at}
use Rattle.site_core.specs.Step.{Made, Steps, taking, unchanged}
use Rattle.site_core.specs.History.{Event, Legal, taken_event, finish_event, answered_event, reply_takes, is_take_of, takes_of, history_of}
use Rattle.site_core.specs.Run.{Runs}
use Rattle.site_core.specs.Headline.{IsRightAfter, AnswersAreRight, IsKeptRight, KeepsRight, IsTakenIn, IsKeptBefore, Origin, IsRightBefore}
use Rattle.site_core.specs.Headline.{RequestsStayRight, RequestsHaveTheirBooks, AnswersGoOnRight, HasItsBook}
use Rattle.site_core.proofs.HistoryLemmas.{legal_push, legal_split, runs_legal, run_at, takes_push, takes_once}
use Rattle.site_core.proofs.StepLemmas.{LeavesRequests, IsHanding, compiling, handing, finishing, Does, does, leaves, takes_one, compiles_one, hands_one, finishes_all, answers_is}

-- ---- the one Take of a number

-- one more event, which isn't a Take of it
abbrev was_taken : (opening : MachineState) (events : List Event) (event : Event) (number : ℕ)
    (book : BookState)
    (ask : Ask) → is_take_of number event ≡ false
    → IsTakenIn opening events number book ask
    → IsTakenIn opening (events ++ event ∷ []) number book ask
was_taken opening events event number book ask other taken = record {
  before = taken.before;
  asked = taken.asked;
  since = taken.since ++ event ∷ [];
  in_order =
      ap (λ (es : List Event). es ++ event ∷ []) taken.in_order
      ∙ append_assoc taken.before (taken_event taken.asked number book ask ∷ taken.since)
      (event ∷ []);
  first = taken.first;
  last = takes_push number taken.since event other ∙ taken.last;
  state = taken.state;
  reached = taken.reached;
  place = taken.place;
  point = taken.point;
  had = taken.had;
  asks = taken.asks;
}

abbrev was_kept : (opening : MachineState) (events : List Event) (event : Event) (number : ℕ)
    (book : BookState)
    (ask : Ask) → is_take_of number event ≡ false
    → IsKeptBefore opening events number book ask
    → IsKeptBefore opening (events ++ event ∷ []) number book ask
was_kept opening events event number book ask other before = record {
  kept = before.kept;
  is_kept = before.is_kept;
  numbered = before.numbered;
  had = before.had;
  asks = before.asks;
  never = takes_push number events event other ∙ before.never;
}

-- ---- the origin of a request

-- the events since then
abbrev since_of : (opening : MachineState) (events : List Event) (number : ℕ) (book : BookState)
    (ask : Ask)
    → Origin opening events number book ask → List Event
since_of opening events number book ask (inl taken) = taken.since
since_of opening events number book ask (inr before) = events

-- the condition under which it may be answered Stopped
abbrev pub MayBeStopped : (opening : MachineState) (events : List Event) (number : ℕ) (book : BookState)
    (ask : Ask) → Origin opening events number book ask → Type 0
MayBeStopped opening events number book ask (inl taken) = Contains taken.since finish_event
MayBeStopped opening events number book ask (inr before) =
    (opening.is_stopped ≡ true) ⊎ Contains events finish_event

abbrev origin_after : (opening : MachineState) (events : List Event) (event : Event) (number : ℕ)
    (book : BookState)
    (ask : Ask) → is_take_of number event ≡ false → Origin opening events number book ask
    → Origin opening (events ++ event ∷ []) number book ask
origin_after opening events event number book ask other (inl taken) =
    inl (was_taken opening events event number book ask other taken)
origin_after opening events event number book ask other (inr before) =
    inr (was_kept opening events event number book ask other before)

stopped_after : (opening : MachineState) (events : List Event) (event : Event) (number : ℕ)
    (book : BookState)
    (ask : Ask) (other : is_take_of number event ≡ false)
    (origin : Origin opening events number book ask)
    → MayBeStopped opening events number book ask origin
    → MayBeStopped opening (events ++ event ∷ []) number book ask
    (origin_after opening events event number book ask other origin)
stopped_after opening events event number book ask other (inl taken) may =
    Contains-append_left taken.since (event ∷ []) finish_event may
stopped_after opening events event number book ask other (inr before) (inl was) = inl was
stopped_after opening events event number book ask other (inr before) (inr may) =
    inr (Contains-append_left events (event ∷ []) finish_event may)

since_after : (opening : MachineState) (events : List Event) (event : Event) (number : ℕ)
    (book : BookState)
    (ask : Ask) (other : is_take_of number event ≡ false)
    (origin : Origin opening events number book ask)
    → Contains (since_of opening (events ++ event ∷ []) number book ask
    (origin_after opening events event number book ask other origin)) event
since_after opening events event number book ask other (inl taken) = Contains-push taken.since event
since_after opening events event number book ask other (inr before) = Contains-push events event

-- after a Finish since
finished_since : (opening : MachineState) (events : List Event) (number : ℕ) (book : BookState)
    (ask : Ask)
    (origin : Origin opening events number book ask)
    → Contains (since_of opening events number book ask origin) finish_event
    → MayBeStopped opening events number book ask origin
finished_since opening events number book ask (inl taken) finish = finish
finished_since opening events number book ask (inr before) finish = inr finish

-- ---- kept requests

-- It was taken, or kept before; its answer is right, and Stopped only after a Finish. Its number
-- isn't above the one drawn last.
pub record IsKept (opening : MachineState) (events : List Event) (drawn : ℕ) (kept : Kept)
    : Type 0 where
  pub origin : Origin opening events kept.number kept.book kept.ask
  pub right : IfSome kept.answer (IsRight kept.book kept.ask)
  pub stopped : kept.answer ≡ Some (Err Stopped)
      → MayBeStopped opening events kept.number kept.book kept.ask origin
  pub below : kept.number ≤ drawn

-- it is kept, and was taken before this event
record IsKeptSince (opening : MachineState) (events : List Event) (event : Event) (drawn : ℕ)
    (kept : Kept) : Type 0 where
  is : IsKept opening events drawn kept
  since : Contains (since_of opening events kept.number kept.book kept.ask is.origin) event

kept_after : (opening : MachineState) (events : List Event) (event : Event) (drawn later : ℕ)
    (requests : List Kept)
    → ((number : ℕ) → number ≤ drawn → is_take_of number event ≡ false) → drawn ≤ later
    → AllByRecursion (IsKept opening events drawn) requests
    → AllByRecursion (IsKeptSince opening (events ++ event ∷ []) event later) requests
kept_after opening events event drawn later [] other more all = tt
kept_after opening events event drawn later (kept ∷ requests) other more all =
    let first = all.0 in
    let below : kept.number ≤ drawn = first.below in
    let not_it = other kept.number below in (
      record {
        is = record {
          origin = origin_after opening events event kept.number kept.book kept.ask not_it
              first.origin;
          right = first.right;
          stopped = λ is.
              stopped_after opening events event kept.number kept.book kept.ask not_it first.origin
              (first.stopped is);
          below = omega arith;
        };
        since = since_after opening events event kept.number kept.book kept.ask not_it first.origin;
      },
      kept_after opening events event drawn later requests other more all.1,
    )

still_kept : (opening : MachineState) (events : List Event) (event : Event) (drawn : ℕ)
    (requests : List Kept)
    → AllByRecursion (IsKeptSince opening events event drawn) requests
    → AllByRecursion (IsKept opening events drawn) requests
still_kept opening events event drawn [] all = tt
still_kept opening events event drawn (kept ∷ requests) all =
    (all.0.is, still_kept opening events event drawn requests all.1)

all_push : (P : Kept → Type 0) (requests : List Kept) (kept : Kept) → AllByRecursion P requests
    → P kept → AllByRecursion P (requests ++ kept ∷ [])
all_push P [] kept all one = (one, tt)
all_push P (first ∷ requests) kept all one = (all.0, all_push P requests kept all.1 one)

pub all_answered : (P : Kept → Type 0) (number : ℕ) (answer : ScheduleAnswer)
    (requests : List Kept) → AllByRecursion P requests
    → ((kept : Kept) → request_of number requests ≡ Some kept → P kept
    → P (with_answer kept answer)) → AllByRecursion P (answered number answer requests)
all_answered P number answer [] all each = tt
all_answered P number answer (first ∷ requests) all each = go (first.number == number) each
    (λ e. all_answered P number answer requests all.1 e)
  where
    go : (here : Bool) → ((kept : Kept) → cond here (Some first)
        (request_of number requests) ≡ Some kept → P kept → P (with_answer kept answer))
        → (((kept : Kept) → request_of number requests ≡ Some kept → P kept
        → P (with_answer kept answer)) → AllByRecursion P (answered number answer requests))
        → AllByRecursion P (cond here (with_answer first answer ∷ requests)
        (first ∷ answered number answer requests))
    go true it rest = (it first refl all.0, all.1)
    go false it rest = (all.0, rest it)

pub all_without : (P : Kept → Type 0) (number : ℕ) (requests : List Kept)
    → AllByRecursion P requests → AllByRecursion P (without number requests)
all_without P number [] all = tt
all_without P number (first ∷ requests) all = go (first.number == number)
    (all_without P number requests all.1)
  where
    go : (here : Bool) → AllByRecursion P (without number requests)
        → AllByRecursion P (cond here requests (first ∷ without number requests))
    go true rest = all.1
    go false rest = (all.0, rest)

all_finished : (P : Kept → Type 0) (requests : List Kept) → ((kept : Kept) → P kept
    → P (stopped_request kept)) → AllByRecursion P requests
    → AllByRecursion P (all_stopped requests)
all_finished P [] each all = tt
all_finished P (first ∷ requests) each all = (each first all.0, all_finished P requests each all.1)

-- an answer that a compiler may give is right
right_of : (book : BookState) (ask : Ask) (answer : ScheduleAnswer) → IsCompiledFor book ask answer
    → IsRight book ask answer
right_of book ask (Ok schedule) compiled = compiled
right_of book ask (Err Stopped) compiled = tt
right_of book ask (Err refusal) compiled = compiled

right_when_stopped : (book : BookState) (ask : Ask) (answer : Option ScheduleAnswer)
    → IfSome answer (IsRight book ask) → IsRight book ask (unwrap_or answer (Err Stopped))
right_when_stopped book ask None right = tt
right_when_stopped book ask (Some answer) right = right

-- ---- the invariant of a history and the state that it leads to

pub record Holds (opening : MachineState) (events : List Event)
    (state : MachineState) : Type 0 where
  pub reached : Legal opening events state
  pub site : state.site ≡ opening.site
  -- numbers that aren't drawn are not taken
  pub later : (number : ℕ) → state.numbers.request < number → takes_of number events ≡ 0
  pub kept : AllByRecursion (IsKept opening events state.numbers.request) state.requests

kept_at_base : (opening : MachineState) (requests : List Kept)
    → ((kept : Kept) → Contains requests kept → Contains opening.requests kept)
    → AllByRecursion (IsKeptRight opening) requests
    → AllByRecursion (IsKept opening [] opening.numbers.request) requests
kept_at_base opening [] each right = tt
kept_at_base opening (first ∷ requests) each right = (
  record {
    origin = inr (record {
      kept = first;
      is_kept = each first (zero, omega arith, refl);
      numbered = refl;
      had = refl;
      asks = refl;
      never = refl;
    });
    right = right.0.right;
    stopped = λ is. inl (right.0.stopped is);
    below = right.0.drawn;
  },
  kept_at_base opening requests (λ kept is. each kept (Contains-append_right
      (first ∷ []) requests kept is)) right.1,
)

pub holds_at_base : (opening : MachineState) → KeepsRight opening → Holds opening [] opening
holds_at_base opening right = record {
  reached = refl;
  site = refl;
  later = λ number above. refl;
  kept = kept_at_base opening opening.requests (λ kept is. is) right;
}

pub none_right : (opening : MachineState) → opening.requests ≡ [] → KeepsRight opening
none_right opening none = subst (AllByRecursion (IsKeptRight opening)) (sym none) tt

-- the event of a step that is made
abbrev pub event_of : Step → Made → Event
event_of step made = record { step = step; reply = made.reply }

-- the invariant holds after one more event, if that is a step
abbrev HoldsAfter : MachineState → List Event → Step → Made → Type 0
HoldsAfter opening events step made =
    Legal opening (events ++ event_of step made ∷ []) made.after
    → Holds opening (events ++ event_of step made ∷ []) made.after

-- the invariant holds after a step that isn't a Take, if the kept requests stay right
holds_changed : (opening : MachineState) (events : List Event) (old : MachineState) (step : Step)
    (made : Made) → Holds opening events old
    → made.after.site ≡ old.site → made.after.numbers.request ≡ old.numbers.request
    → ((number : ℕ) → reply_takes number made.reply ≡ false)
    → (AllByRecursion (IsKeptSince opening (events ++ event_of step made ∷ [])
    (event_of step made) old.numbers.request) old.requests
    → AllByRecursion (IsKeptSince opening (events ++ event_of step made ∷ [])
    (event_of step made) old.numbers.request) made.after.requests)
    → HoldsAfter opening events step made
holds_changed opening events old step made holds site drawn no_take change reached =
    let event : Event = event_of step made in
    let before = kept_after opening events event old.numbers.request old.numbers.request
    old.requests (λ number below. no_take number) (omega arith) holds.kept in
    record {
      reached = reached;
      site = site ∙ holds.site;
      later = λ number above. takes_push number events event (no_take number)
          ∙ holds.later number (omega (arith, drawn, above));
      kept =
          subst (λ (n : ℕ). AllByRecursion (IsKept opening
          (events ++ event ∷ []) n) made.after.requests) (sym drawn)
          (still_kept opening (events ++ event ∷ []) event old.numbers.request made.after.requests
          (change before));
    }

holds_left : (opening : MachineState) (events : List Event) (old : MachineState) (step : Step)
    (made : Made) → Holds opening events old
    → LeavesRequests old step made → HoldsAfter opening events step made
holds_left opening events old step made holds is =
    holds_changed opening events old step made holds is.site is.drawn is.no_take
    (subst (λ (requests : List Kept). AllByRecursion (IsKeptSince opening
    (events ++ event_of step made ∷ []) (event_of step made) old.numbers.request) requests)
    (sym is.requests))

-- a compiler's answer is never Stopped
never_stopped : (book : BookState) (ask : Ask) (answer : ScheduleAnswer)
    → IsCompiledFor book ask answer → Some answer ≡ Some (Err Stopped) → ⊥
never_stopped book ask answer compiled is = let stopped : answer ≡ Err Stopped =
    cc in subst (IsCompiledFor book ask) stopped compiled

holds_compiled : (opening : MachineState) (events : List Event) (old : MachineState) (number : ℕ)
    (kept : Kept) (answer : ScheduleAnswer) → Holds opening events old
    → request_of number old.requests ≡ Some kept → IsCompiledFor kept.book kept.ask answer
    → HoldsAfter opening events (steps.Compile number) (compiling old number answer)
holds_compiled opening events old number kept answer holds found right =
    let event : Event = event_of (steps.Compile number) (compiling old number answer) in
    holds_changed opening events old (steps.Compile number)
    (compiling old number answer) holds refl refl (λ number. refl) (λ all.
    all_answered (IsKeptSince opening
    (events ++ event ∷ []) event old.numbers.request) number answer old.requests all
    (λ other here has.
    let same : kept ≡ other = cc in
    let compiled : IsCompiledFor other.book other.ask answer =
    subst (λ (k : Kept). IsCompiledFor k.book k.ask answer) same right in
    record {
      is = record {
        origin = has.is.origin;
        right = right_of other.book other.ask answer compiled;
        stopped = λ stopped. absurd (never_stopped other.book other.ask answer compiled stopped);
        below = has.is.below;
      };
      since = has.since;
    }))

holds_handed : (opening : MachineState) (events : List Event) (old : MachineState) (number : ℕ)
    (kept : Kept) (answer : ScheduleAnswer) → Holds opening events old
    → HoldsAfter opening events (steps.Answer number) (handing old kept answer)
holds_handed opening events old number kept answer holds =
    let event : Event = event_of (steps.Answer number) (handing old kept answer) in
    holds_changed opening events old (steps.Answer number)
    (handing old kept answer) holds refl refl (λ number. refl)
    (all_without (IsKeptSince opening
    (events ++ event ∷ []) event old.numbers.request) kept.number old.requests)

holds_finished : (opening : MachineState) (events : List Event) (old : MachineState)
    → Holds opening events old → HoldsAfter opening events steps.Finish (finishing old)
holds_finished opening events old holds =
    holds_changed opening events old steps.Finish (finishing old) holds refl refl (λ number. refl)
    (λ all.
    all_finished (IsKeptSince opening
    (events ++ finish_event ∷ []) finish_event old.numbers.request) old.requests
    (λ kept has. record {
      is = record {
        origin = has.is.origin;
        right = right_when_stopped kept.book kept.ask kept.answer has.is.right;
        stopped = λ stopped.
            finished_since opening
            (events ++ finish_event ∷ []) kept.number kept.book kept.ask has.is.origin has.since;
        below = has.is.below;
      };
      since = has.since;
    }) all)

-- the number that comes next isn't one of those drawn
next_differs : (drawn number : ℕ) → number ≤ drawn → (drawn + 1 == number) ≡ false
next_differs drawn number below = grind (arith, nat_tests)

next_is_below : (drawn number : ℕ) → drawn + 1 < number → (drawn + 1 == number) ≡ false
next_is_below drawn number above = grind (arith, nat_tests)

holds_taken : (opening : MachineState) (events : List Event) (old : MachineState) (take : Take)
    (place : ℕ) (ask : Ask) → Holds opening events old
    → place_of old.site take.point ≡ Some place
    → ask_at old.site.unit (book_at old place) take ≡ Ok ask
    → HoldsAfter opening events (steps.Take take) (taking old place ask)
holds_taken opening events old take place ask holds point asks reached =
    let drawn : ℕ = old.numbers.request in
    let event : Event = taken_event take (drawn + 1) (book_at old place) ask in
    record {
      reached = reached;
      site = holds.site;
      later = λ number above. takes_push number events event
          (next_is_below old.numbers.request number above)
          ∙ holds.later number (omega (arith, above));
      kept =
          all_push (IsKept opening (events ++ event ∷ []) (drawn + 1)) old.requests _
          (still_kept opening (events ++ event ∷ []) event (drawn + 1) old.requests
          (kept_after opening events event drawn (drawn + 1) old.requests
          (next_differs old.numbers.request) (omega arith) holds.kept))
          (record {
            origin = inl (record {
              before = events;
              asked = take;
              since = [];
              in_order = refl;
              first = holds.later (drawn + 1) (omega arith);
              last = refl;
              state = old;
              reached = holds.reached;
              place = place;
              point = subst (λ (site : SiteState). place_of site take.point ≡ Some place)
                  holds.site point;
              had = refl;
              asks = subst (λ (site : SiteState). ask_at site.unit
                  (book_at old place) take ≡ Ok ask) holds.site asks;
            });
            right = tt;
            stopped = λ stopped. cc;
            below = omega arith;
          });
    }

-- ---- every step, and every history

pub holds_done : (opening : MachineState) (events : List Event) (old : MachineState) (step : Step)
    (made : Made) → Holds opening events old → Does old step made
    → HoldsAfter opening events step made
holds_done opening events old step made holds (leaves _ _ is) =
    holds_left opening events old step made holds is
holds_done opening events old step made holds (takes_one take place ask point asks going) =
    holds_taken opening events old take place ask holds point asks
holds_done opening events old step made holds
    (compiles_one number kept answer found unanswered right) =
    holds_compiled opening events old number kept answer holds found right
holds_done opening events old step made holds (hands_one number kept answer found has) =
    holds_handed opening events old number kept answer holds
holds_done opening events old step made holds (finishes_all going) = holds_finished opening events old holds

pub holds_step : (opening : MachineState) (events : List Event) (old : MachineState)
    (event : Event) (new : MachineState) → Holds opening events old
    → Steps old event.step event.reply new → Holds opening (events ++ event ∷ []) new
holds_step opening events old event new holds made =
    holds_done opening events old event.step (record {
      reply = event.reply;
      after =
          new;
    }) holds (does old event.step event.reply new made)
    (legal_push opening events old event new holds.reached made)

pub holds_after : (opening : MachineState) (events : List Event) (old : MachineState)
    (later : List Event) (new : MachineState) → Holds opening events old → Legal old later new
    → Holds opening (events ++ later) new
holds_after opening events old [] new holds legal =
    subst (λ (es : List Event). Holds opening es new) (sym (append-nil events)) (subst
    (Holds opening events) (sym legal) holds)
holds_after opening events old (event ∷ later) new holds legal =
    let one = holds_step opening events old event legal.0 holds legal.1 in
    subst (λ (es : List Event). Holds opening es new) (append_assoc events (event ∷ []) later)
    (holds_after opening (events ++ event ∷ []) legal.0 later new one legal.2)

-- ---- the headline

-- an answer that is handed out after a legal history is right, by the origin of its request
answer_right : (opening : MachineState) (events : List Event) (number : ℕ) (book : BookState) (ask : Ask)
    (answer : ScheduleAnswer) (origin : Origin opening events number book ask)
    → IsRight book ask answer
    → (answer ≡ Err Stopped → MayBeStopped opening events number book ask origin)
    → IsRightAfter opening events number book ask answer
    ⊎ IsRightBefore opening events number book ask answer
answer_right opening events number book ask answer (inl taken) right stopped =
    inl (record { taken = taken; right = right; stopped = stopped })
answer_right opening events number book ask answer (inr before) right stopped =
    inr (record { before = before; right = right; stopped = stopped })

kept_right : (opening : MachineState) (events : List Event) (drawn : ℕ) (kept : Kept)
    (answer : ScheduleAnswer) → kept.answer ≡ Some answer → IsKept opening events drawn kept
    → IsRightAfter opening events kept.number kept.book kept.ask answer
    ⊎ IsRightBefore opening events kept.number kept.book kept.ask answer
kept_right opening events drawn kept answer has found =
    answer_right opening events kept.number kept.book kept.ask answer found.origin
    (subst (λ (o : Option ScheduleAnswer). IfSome o (IsRight kept.book kept.ask)) has found.right)
    (λ e. found.stopped (has ∙ ap Some e))

abbrev IsRightEither : MachineState → List Event → ℕ → BookState → Ask → ScheduleAnswer → Type 0
IsRightEither opening events number book ask answer =
    IsRightAfter opening events number book ask answer
    ⊎ IsRightBefore opening events number book ask answer

pub handed_out_right : (opening : MachineState) (events : List Event) (middle : MachineState)
    (number : ℕ) (book : BookState) (ask : Ask) (answer : ScheduleAnswer) (next : MachineState)
    → Holds opening events middle
    → Steps middle (steps.Answer number) (Answered book ask answer) next
    → IsRightEither opening events number book ask answer
handed_out_right opening events middle number book ask answer next holds made =
    handed (subst (λ (r : Result Made Refusal). IfOk r (λ m. IsHanding middle number m ⊎
    (unchanged middle NotYet ≡ m)))
    made (answers_is middle number))
  where
    handed : IsHanding middle number (record { reply = Answered book ask answer; after = next })
        ⊎ (unchanged middle NotYet ≡ record { reply = Answered book ask answer; after = next })
        → IsRightEither opening events number book ask answer
    handed (inr same) = let reply : NotYet ≡ Answered book ask answer =
        ap (λ (m : Made). m.reply) same in cc
    handed (inl is) =
        let reply : Answered is.kept.book is.kept.ask is.answer ≡ Answered book ask answer =
        ap (λ (m : Made). m.reply) is.is in
        let books : is.kept.book ≡ book = cc in
        let asks : is.kept.ask ≡ ask = cc in
        let answers : is.answer ≡ answer = cc in
        let found = found_holds
        (IsKept opening events middle.numbers.request) number middle.requests is.kept
        holds.kept is.found in
        let numbered : is.kept.number ≡ number =
        found_number number middle.requests is.kept is.found in
        let right = kept_right opening events middle.numbers.request is.kept is.answer is.has found
        in
        subst (λ (n : ℕ). IsRightEither opening events n book ask answer) numbered
        (subst (λ (b : BookState). IsRightEither opening events is.kept.number b ask answer) books
        (subst (λ (a : Ask). IsRightEither opening events is.kept.number is.kept.book a answer) asks
        (subst (IsRightEither opening events is.kept.number is.kept.book is.kept.ask) answers
        right)))

-- if nothing was kept before, it was taken
after_alone : (opening : MachineState) (events : List Event) (number : ℕ) (book : BookState) (ask : Ask)
    (answer : ScheduleAnswer) → opening.requests ≡ []
    → IsRightEither opening events number book ask answer
    → IsRightAfter opening events number book ask answer
after_alone opening events number book ask answer none (inl right) = right
after_alone opening events number book ask answer none (inr right) =
    absurd (nothing_in right.before.kept
    (subst (λ (requests : List Kept). Contains requests right.before.kept) none
    right.before.is_kept))
  where
    nothing_in : (kept : Kept) → Contains {X = Kept} [] kept → ⊥
    nothing_in kept is = absurd (omega (arith, is.1))

-- in a legal history from an opening state
pub history_right : (opening : MachineState) (earlier later : List Event) (number : ℕ)
    (book : BookState) (ask : Ask) (answer : ScheduleAnswer) (new : MachineState)
    → opening.requests ≡ [] → Legal opening
    (earlier ++ answered_event number book ask answer ∷ later) new
    → IsRightAfter opening earlier number book ask answer
history_right opening earlier later number book ask answer new none legal =
    let cut = legal_split opening earlier (answered_event number book ask answer) later new legal in
    after_alone opening earlier number book ask answer none
    (handed_out_right opening earlier cut.0 number book ask answer cut.1
    (holds_after opening [] opening earlier cut.0 (holds_at_base opening
    (none_right opening none)) cut.2) cut.3)

pub right_takes_once : (opening : MachineState) (events : List Event) (number : ℕ) (book : BookState)
    (ask : Ask) (answer : ScheduleAnswer)
    → IsRightAfter opening events number book ask answer → takes_of number events ≡ 1
right_takes_once opening events number book ask answer right =
    let same : (number == number) ≡ true = grind (arith, nat_tests) in
    let taken = right.taken in
    ap (takes_of number) taken.in_order ∙ takes_once number taken.before
    (taken_event taken.asked number book ask) taken.since same taken.first taken.last

-- in a run from an opening state
pub run_right : (opening : MachineState) (run : List Step) (outcomes : List Outcome)
    (new : MachineState) → opening.requests ≡ [] → Runs opening run outcomes new
    → AnswersAreRight opening run outcomes
run_right opening run outcomes new none runs n number book ask answer here there =
    let cut = run_at opening new run outcomes n (steps.Answer number) (Done
    (Answered book ask answer)) runs here there in
    after_alone opening (history_of (take n run) (take n outcomes)) number book ask answer none
    (handed_out_right opening (history_of (take n run)
    (take n outcomes)) cut.0 number book ask answer cut.1
    (holds_after opening [] opening (history_of (take n run) (take n outcomes)) cut.0
    (holds_at_base opening (none_right opening none)) (runs_legal opening cut.0 (take n run)
    (take n outcomes) cut.2)) cut.3)

-- ---- from any state

pub answers_go_on_right : AnswersGoOnRight
answers_go_on_right old earlier later number book ask answer new right legal =
    let cut = legal_split old earlier (answered_event number book ask answer) later new legal in
    handed_out_right old earlier cut.0 number book ask answer cut.1
    (holds_after old [] old earlier cut.0 (holds_at_base old right) cut.2) cut.3

have_their_books : (old : MachineState) (events : List Event) (drawn : ℕ) (requests : List Kept)
    → AllByRecursion (IsKept old events drawn) requests
    → AllByRecursion (HasItsBook old events) requests
have_their_books old events drawn [] all = tt
have_their_books old events drawn (kept ∷ requests) all =
    (all.0.origin, have_their_books old events drawn requests all.1)

pub requests_have_their_books : RequestsHaveTheirBooks
requests_have_their_books old events new right legal =
    have_their_books old events new.numbers.request new.requests
    (holds_after old [] old events new (holds_at_base old right) legal).kept

-- requests that are right in one state are right in a later one
right_later : (old new : MachineState) (requests : List Kept)
    → old.numbers.request ≤ new.numbers.request → (old.is_stopped ≡ true → new.is_stopped ≡ true)
    → AllByRecursion (IsKeptRight old) requests → AllByRecursion (IsKeptRight new) requests
right_later old new [] more stops all = tt
right_later old new (kept ∷ requests) more stops all =
    let drawn = all.0.drawn in (
      record {
        drawn = omega (arith, drawn, more);
        right = all.0.right;
        stopped = λ is. stops (all.0.stopped is);
      },
      right_later old new requests more stops all.1,
    )

right_step : (old : MachineState) (step : Step) (made : Made) → KeepsRight old → Does old step made
    → KeepsRight made.after
right_step old step made right (leaves _ _ is) =
    subst (AllByRecursion (IsKeptRight made.after)) (sym is.requests)
    (right_later old made.after old.requests (omega (arith, is.drawn)) (λ e. is.stopped ∙ e) right)
right_step old step made right (takes_one take place ask point asks going) =
    all_push (IsKeptRight made.after) old.requests _
    (right_later old made.after old.requests (omega arith) (λ e. e) right)
    (record { drawn = omega arith; right = tt; stopped = λ is. cc })
right_step old step made right (compiles_one number kept answer found unanswered compiled) =
    all_answered (IsKeptRight made.after) number answer old.requests
    (right_later old made.after old.requests (omega arith) (λ e. e) right) (λ other here has.
    let same : kept ≡ other = cc in
    let is : IsCompiledFor other.book other.ask answer =
    subst (λ (k : Kept). IsCompiledFor k.book k.ask answer) same compiled in
    record {
      drawn = has.drawn;
      right = right_of other.book other.ask answer is;
      stopped = λ stopped. absurd (never_stopped other.book other.ask answer is stopped);
    })
right_step old step made right (hands_one number kept answer found has) =
    all_without (IsKeptRight made.after) kept.number old.requests
    (right_later old made.after old.requests (omega arith) (λ e. e) right)
right_step old step made right (finishes_all going) =
    all_finished (IsKeptRight made.after) old.requests (λ kept has. record {
      drawn = has.drawn;
      right = right_when_stopped kept.book kept.ask kept.answer has.right;
      stopped = λ is. refl;
    }) (right_later old made.after old.requests (omega arith) (λ e. refl) right)

pub requests_stay_right : RequestsStayRight
requests_stay_right old [] new right legal = subst KeepsRight (sym legal) right
requests_stay_right old (event ∷ events) new right legal =
    let made : Made = record { reply = event.reply; after = legal.0 } in
    requests_stay_right legal.0 events new
    (right_step old event.step made right (does old event.step event.reply legal.0 legal.1)) legal.2
