-- The headline. After any steps, in any order, every schedule that is handed out is right for the
-- book that its point had when the request was taken, whatever was changed since (OCPP 1.6, 5.7).
use Rattle.std.specs.Prelude.{ℕ, ◌≡◌, ◌≤◌, ◌+◌, ◌⊎◌, true, List, ◌∷◌, ◌++◌, take, slice_get, Some, IfSome, Ok, Err}
use Rattle.std.specs.List.{AllByRecursion, Contains}
use Rattle.ocpp_scalars.specs.declared.refusal.Refusal.TheVariants.{Stopped}
use Rattle.meaning.specs.declared.ask.Ask.{Ask}
use Rattle.site_rules.specs.Site.{SiteState, place_of}
use Rattle.point_book.specs.Book.{BookState}
use Rattle.site_core.specs.declared.step.Step.{Step}
use Rattle.site_core.specs.declared.step.Step.TheVariants.{Answer}
use Rattle.site_core.specs.declared.step.Take.{Take}
use Rattle.site_core.specs.declared.reply.Reply.TheVariants.{Answered}
use Rattle.site_core.specs.declared.outcome.Outcome.{Outcome}
use Rattle.site_core.specs.declared.outcome.Outcome.TheVariants.{Done}
use Rattle.site_core.specs.declared.numbers.Numbers.{Numbers}
use Rattle.site_core.specs.State.{MachineState, Kept, ScheduleAnswer, opening_at, book_at}
use Rattle.site_core.specs.Ask.{ask_at}
use Rattle.site_core.specs.Right.{IsRight}
use Rattle.site_core.specs.History.{Event, Legal, history_of, taken_event, answered_event, finish_event, takes_of, answers_of, kept_of, IsAnswered}

-- A request of a number, with a book and an `Ask`, was taken in these events from a state:
pub record IsTakenIn (old : MachineState) (events : List Event) (number : ℕ) (book : BookState)
    (ask : Ask) : Type 0 where
  -- There were events before the request was taken,
  pub before : List Event
  -- there was its Take,
  pub asked : Take
  -- and there were events since,
  pub since : List Event
  -- and these are all the events, in this order.
  pub in_order : events ≡ before ++ taken_event asked number book ask ∷ since
  -- No other Take has this number, neither before
  pub first : takes_of number before ≡ 0
  -- nor since.
  pub last : takes_of number since ≡ 0
  -- The central system was in a state when it took the request,
  pub state : MachineState
  -- the one to which the events before had led.
  pub reached : Legal old before state
  -- The request was for a point, which has a place in the site file,
  pub place : ℕ
  pub point : place_of old.site asked.point ≡ Some place
  -- and the book is that point's in that state: its profiles and transactions.
  pub had : book ≡ book_at state place
  -- The `Ask` is the one that the request made.
  pub asks : ask_at old.site.unit book asked ≡ Ok ask

-- An answer that is handed out to the request of a number, with a book and an `Ask`, after these
-- events from an opening state, is right:
pub record IsRightAfter (opening : MachineState) (events : List Event) (number : ℕ)
    (book : BookState) (ask : Ask) (answer : ScheduleAnswer) : Type 0 where
  -- The request was taken in these events, with the book that its point had then.
  pub taken : IsTakenIn opening events number book ask
  -- For this book and this `Ask` the answer is right: the exact schedule, or a permitted refusal.
  pub right : IsRight book ask answer
  -- It is the refusal Stopped only if the central system was stopped since.
  pub stopped : answer ≡ Err Stopped → Contains taken.since finish_event

-- Each answer that a run hands out, wherever in the run, is right after the steps that were made
-- before it.
abbrev pub AnswersAreRight : MachineState → List Step → List Outcome → Type 0
AnswersAreRight opening steps outcomes =
    (position number : ℕ) (book : BookState) (ask : Ask) (answer : ScheduleAnswer)
    → slice_get steps position ≡ Some (Answer number)
    → slice_get outcomes position ≡ Some (Done (Answered book ask answer))
    → IsRightAfter opening (history_of (take position steps) (take position outcomes))
    number book ask answer

-- ---- the same from any state

-- A kept request is right in a state. Its number was drawn. Its answer, if it has one, is right for
-- its book and its `Ask`, and Stopped only if the central system is stopped.
pub record IsKeptRight (state : MachineState) (kept : Kept) : Type 0 where
  pub drawn : kept.number ≤ state.numbers.request
  pub right : IfSome kept.answer (IsRight kept.book kept.ask)
  pub stopped : kept.answer ≡ Some (Err Stopped) → state.is_stopped ≡ true

abbrev pub KeepsRight : MachineState → Type 0
KeepsRight state = AllByRecursion (IsKeptRight state) state.requests

-- A request of a number, with a book and an `Ask`, was kept in a state already, and no Take in
-- these events since has its number.
pub record IsKeptBefore (old : MachineState) (events : List Event) (number : ℕ) (book : BookState)
    (ask : Ask) : Type 0 where
  pub kept : Kept
  pub is_kept : Contains old.requests kept
  pub numbered : kept.number ≡ number
  pub had : kept.book ≡ book
  pub asks : kept.ask ≡ ask
  pub never : takes_of number events ≡ 0

-- a request was taken in these events, with the book that its point had then, or was kept before
abbrev pub Origin : MachineState → List Event → ℕ → BookState → Ask → Type 0
Origin old events number book ask =
    IsTakenIn old events number book ask ⊎ IsKeptBefore old events number book ask

abbrev pub HasItsBook : MachineState → List Event → Kept → Type 0
HasItsBook old events kept = Origin old events kept.number kept.book kept.ask

-- An answer to a request that was kept before is right for it, and Stopped only if the central
-- system was stopped before, or since.
pub record IsRightBefore (old : MachineState) (events : List Event) (number : ℕ)
    (book : BookState) (ask : Ask) (answer : ScheduleAnswer) : Type 0 where
  pub before : IsKeptBefore old events number book ask
  pub right : IsRight book ask answer
  pub stopped : answer ≡ Err Stopped → (old.is_stopped ≡ true) ⊎ Contains events finish_event

-- the opening keeps no request
abbrev pub OpeningsKeepRight : Type 0
OpeningsKeepRight = (site : SiteState) (numbers : Numbers) → KeepsRight (opening_at site numbers)

-- from a state in which all kept requests are right, every legal history leads to another such
-- state
abbrev pub RequestsStayRight : Type 0
RequestsStayRight =
    (old : MachineState) (events : List Event) (new : MachineState)
    → KeepsRight old → Legal old events new → KeepsRight new

-- each kept request has the book that its Take, or the old state, gave it
abbrev pub RequestsHaveTheirBooks : Type 0
RequestsHaveTheirBooks =
    (old : MachineState) (events : List Event) (new : MachineState)
    → KeepsRight old → Legal old events new
    → AllByRecursion (HasItsBook old events) new.requests

-- each answer that is handed out is right: for the book at the request's Take, or for the one that
-- the old state kept
abbrev pub AnswersGoOnRight : Type 0
AnswersGoOnRight =
    (old : MachineState) (earlier later : List Event) (number : ℕ) (book : BookState) (ask : Ask)
    (answer : ScheduleAnswer) (new : MachineState)
    → KeepsRight old
    → Legal old (earlier ++ answered_event number book ask answer ∷ later) new
    → IsRightAfter old earlier number book ask answer
    ⊎ IsRightBefore old earlier number book ask answer

-- once the central system is stopped, each kept request has its answer
abbrev pub AnsweredOnceStopped : MachineState → Type 0
AnsweredOnceStopped state =
    state.is_stopped ≡ true → AllByRecursion IsAnswered state.requests

-- every legal history from such a state leads to another such state
abbrev pub StoppedRequestsStayAnswered : Type 0
StoppedRequestsStayAnswered =
    (old : MachineState) (events : List Event) (new : MachineState)
    → AnsweredOnceStopped old → Legal old events new → AnsweredOnceStopped new

-- no request is lost, and none is answered twice
abbrev pub RequestsBalance : Type 0
RequestsBalance =
    (old : MachineState) (events : List Event) (new : MachineState) → Legal old events new
    → (number : ℕ)
    → takes_of number events + kept_of number old.requests
    ≡ answers_of number events + kept_of number new.requests
