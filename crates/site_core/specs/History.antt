-- Histories: steps that were made and their replies, one event after another.
use Rattle.std.specs.Prelude.{ℕ, ◌≡◌, ◌==◌, ◌&&◌, Bool, true, false, List, [], ◌∷◌, IsSome}
use Rattle.std.specs.List.{count_by}
use Rattle.meaning.specs.declared.ask.Ask.{Ask}
use Rattle.point_book.specs.Book.{BookState}
use Rattle.site_core.specs.declared.step.Step.{Step}
use Rattle.site_core.specs.declared.step.Step.TheVariants as steps
use Rattle.site_core.specs.declared.step.Take.{Take}
use Rattle.site_core.specs.declared.reply.Reply.{Reply}
use Rattle.site_core.specs.declared.reply.Reply.TheVariants.{Taken, Answered, Finished}
use Rattle.site_core.specs.declared.outcome.Outcome.{Outcome}
use Rattle.site_core.specs.declared.outcome.Outcome.TheVariants.{Done, Refused}
use Rattle.site_core.specs.State.{MachineState, Kept, ScheduleAnswer}
use Rattle.site_core.specs.Step.{Steps}

-- a step that was made, and its reply
pub record Event : Type 0 where
  pub step : Step
  pub reply : Reply

-- A history is legal if each event is a step from the state that the one before led to. The first
-- is a step from the old state, and the last leads to the new one.
abbrev pub Legal : MachineState → List Event → MachineState → Type 0
Legal old [] new = new ≡ old
Legal old (event ∷ later) new =
    (middle : MachineState) × Steps old event.step event.reply middle × Legal middle later new

-- The history of a run: its steps that were made, with their replies. A refused step isn't in it. A
-- step that is answered without a change (Unknown, Repeated, NoSuch, NotYet, Nothing, a second
-- Finish) is one.
abbrev pub history_of : List Step → List Outcome → List Event
history_of (step ∷ steps) (Done reply ∷ outcomes) =
    record { step = step; reply = reply } ∷ history_of steps outcomes
history_of (step ∷ steps) (Refused refused ∷ outcomes) = history_of steps outcomes
history_of _ _ = []

-- the Take that began a request, with its number, its point's book and its `Ask`
abbrev pub taken_event : Take → ℕ → BookState → Ask → Event
taken_event take number book ask = record { step = steps.Take take; reply = Taken number book ask }

-- the Answer that handed out the answer of a number, with its book and its `Ask`
abbrev pub answered_event : ℕ → BookState → Ask → ScheduleAnswer → Event
answered_event number book ask answer =
    record { step = steps.Answer number; reply = Answered book ask answer }

-- a Finish, after which the central system is stopped
abbrev pub finish_event : Event
finish_event = record { step = steps.Finish; reply = Finished }

abbrev pub reply_takes : ℕ → Reply → Bool
reply_takes number (Taken taken book ask) = taken == number
reply_takes number other = false

abbrev pub is_take_of : ℕ → Event → Bool
is_take_of number event = reply_takes number event.reply

-- how many of these events are Takes of this number
abbrev pub takes_of : ℕ → List Event → ℕ
takes_of number events = count_by (is_take_of number) events

abbrev pub asks_answer_of : ℕ → Step → Bool
asks_answer_of number (steps.Answer asked) = asked == number
asks_answer_of number other = false

abbrev pub has_answer : Reply → Bool
has_answer (Answered book ask answer) = true
has_answer other = false

abbrev pub is_answer_of : ℕ → Event → Bool
is_answer_of number event = asks_answer_of number event.step && has_answer event.reply

-- how many of these events hand out an answer to a request of this number
abbrev pub answers_of : ℕ → List Event → ℕ
answers_of number events = count_by (is_answer_of number) events

-- how many of the kept requests have this number
abbrev pub kept_of : ℕ → List Kept → ℕ
kept_of number requests = count_by (λ kept. kept.number == number) requests

abbrev pub IsAnswered : Kept → Type 0
IsAnswered kept = IsSome kept.answer
