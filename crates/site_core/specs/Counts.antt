-- The numbers count a history: each change of a point's book draws a version of the store, and each
-- Take a request's number. A request is kept until its answer is handed out.
use Rattle.std.specs.Prelude.{ℕ, ◌≡◌, ◌+◌, List, length}
use Rattle.std.specs.List.{sum_by}
use Rattle.site_core.specs.State.{MachineState}
use Rattle.site_core.specs.Step.{counted}
use Rattle.site_core.specs.History.{Event, Legal}

-- the numbers of changes, Takes and answers in a history
abbrev pub changes_in : List Event → ℕ
changes_in events = sum_by (λ (event : Event). (counted event.reply).changes) events

abbrev pub takes_in : List Event → ℕ
takes_in events = sum_by (λ (event : Event). (counted event.reply).takes) events

abbrev pub answers_in : List Event → ℕ
answers_in events = sum_by (λ (event : Event). (counted event.reply).answers) events

-- from one state to another the numbers grow by these counts
pub record TellOf (old : MachineState) (changes takes answers : ℕ) (new : MachineState)
    : Type 0 where
  pub versions : new.numbers.version ≡ old.numbers.version + changes
  pub drawn : new.numbers.request ≡ old.numbers.request + takes
  pub kept : length old.requests + takes ≡ length new.requests + answers

abbrev pub NumbersTellOfHistories : Type 0
NumbersTellOfHistories =
    (old : MachineState) (events : List Event) (new : MachineState) → Legal old events new
    → TellOf old (changes_in events) (takes_in events) (answers_in events) new
