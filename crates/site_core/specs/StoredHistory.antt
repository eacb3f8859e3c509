-- Histories as they are stored: the step of each event, and for a Compile the answer that it
-- brought. So a history leads to one state, its replay, which determines every reply.
use Rattle.std.specs.Prelude.{◌≡◌, ℕ, List, [], ◌∷◌, ◌++◌, Some, Result, Ok, IfOk}
use Rattle.ocpp_scalars.specs.declared.refusal.Refusal.{Refusal}
use Rattle.ocpp_scalars.specs.ResultSteps.{◌>>=◌}
use Rattle.site_core.specs.declared.step.Step.{Step}
use Rattle.site_core.specs.declared.step.Step.TheVariants as steps
use Rattle.site_core.specs.declared.reply.Reply.{Reply}
use Rattle.site_core.specs.State.{MachineState, Kept, ScheduleAnswer}
use Rattle.site_core.specs.Right.{IsCompiledFor}
use Rattle.site_core.specs.Requests.{request_of}
use Rattle.site_core.specs.Step.{Made, stepped}
use Rattle.site_core.specs.History.{Event, Legal}

-- an event as it is stored: only a Compile uses the answer
pub record StoredEvent : Type 0 where
  pub step : Step
  pub answer : ScheduleAnswer

-- its result in a state
abbrev pub made_of : MachineState → StoredEvent → Result Made Refusal
made_of old stored = stepped stored.answer old stored.step

-- ---- the replay

-- the events of a stored history, with their replies, and the state after them
pub record Replay : Type 0 where
  pub events : List Event
  pub after : MachineState

abbrev pub event_of : Step → Reply → Event
event_of step reply = record { step = step; reply = reply }

-- the replay from a state on; there is none if one of the steps would be refused
abbrev pub replayed : MachineState → List StoredEvent → Result Replay Refusal
replayed old [] = Ok (record { events = []; after = old })
replayed old (stored ∷ later) = do
  made ← made_of old stored
  rest ← replayed made.after later
  Ok (record { events = event_of stored.step made.reply ∷ rest.events; after = rest.after })

-- ---- answers

-- if the event compiles a kept request, a compiler may give this answer to it
abbrev pub MayBeGiven : MachineState → StoredEvent → Type 0
MayBeGiven old stored =
    (number : ℕ) (kept : Kept)
    → stored.step ≡ steps.Compile number → request_of number old.requests ≡ Some kept
    → IsCompiledFor kept.book kept.ask stored.answer

-- the same along a stored history
abbrev pub AllMayBeGiven : MachineState → List StoredEvent → Type 0
AllMayBeGiven old [] = Unit {0}
AllMayBeGiven old (stored ∷ later) =
    MayBeGiven old stored × IfOk (made_of old stored) (λ made. AllMayBeGiven made.after later)

-- ---- the laws

-- a history and the state after it are stored as these events: it is their replay, and their
-- answers may be given
pub record IsStoredAs (old : MachineState) (events : List Event) (new : MachineState)
    (stored : List StoredEvent) : Type 0 where
  pub replay : replayed old stored ≡ Ok (record { events = events; after = new })
  pub given : AllMayBeGiven old stored

-- a stored history has one replay, and so one state at its end
abbrev pub ReplaysAreOne : Type 0
ReplaysAreOne =
    (old : MachineState) (stored : List StoredEvent) (one other : Replay)
    → replayed old stored ≡ Ok one → replayed old stored ≡ Ok other → one ≡ other

-- each replay is a legal history
abbrev pub ReplaysAreLegal : Type 0
ReplaysAreLegal =
    (old : MachineState) (events : List Event) (new : MachineState) (stored : List StoredEvent)
    → IsStoredAs old events new stored → Legal old events new

-- every legal history can be stored
abbrev pub HistoriesCanBeStored : Type 0
HistoriesCanBeStored =
    (old : MachineState) (events : List Event) (new : MachineState) → Legal old events new
    → (stored : List StoredEvent) × IsStoredAs old events new stored

-- one more event is replayed after those before it
abbrev pub ReplaysGoOn : Type 0
ReplaysGoOn =
    (old : MachineState) (events : List Event) (middle : MachineState) (stored : List StoredEvent)
    (last : StoredEvent) (made : Made)
    → IsStoredAs old events middle stored
    → made_of middle last ≡ Ok made → MayBeGiven middle last
    → IsStoredAs old (events ++ event_of last.step made.reply ∷ []) made.after
    (stored ++ last ∷ [])
