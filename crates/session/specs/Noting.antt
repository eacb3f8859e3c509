-- The lines that a session notes of the steps that it made: each leads where its step led.
use Rattle.std.specs.Prelude.{ℕ, ◌≡◌, Bool, true, false, List, Option, Some, None}
use Rattle.messages.specs.declared.action_kind.ActionKind.{ActionKind}
use Rattle.messages.specs.declared.side.Side.TheVariants.{Point}
use Rattle.site_core.specs.declared.step.Step.{Step}
use Rattle.site_core.specs.declared.step.Step.TheVariants as steps
use Rattle.site_core.specs.State.{MachineState}
use Rattle.version_store.specs.Passes.{PassState}
use Rattle.version_store.specs.Store.{StoreState, IsStore}
use Rattle.journal.specs.Entry.{EntryState, IsEntryOf}
use Rattle.journal.specs.Line.{SenderState, NotedState, side_of_sender}
use Rattle.journal.specs.NotedStep.{line_at, noted_by}
use Rattle.texts.specs.declared.asked.Asked.TheVariants as asked
use Rattle.texts.specs.Asked.{asked_of}
use Rattle.texts.specs.SentText.{Sent}
use Rattle.session.specs.declared.outcome.Performed.{Performed}
use Rattle.session.specs.Perform.{Performs}

-- ---- entries of links

-- the state that a book has
abbrev pub IsPresent : StoreState → MachineState → Type 0
IsPresent book state = state ≡ book.present

-- an entry about a point, at some moment
abbrev pub IsEntryAt : List ℕ → NotedState → EntryState → Type 0
IsEntryAt point noted entry = (moment : ℕ) × IsEntryOf entry (line_at moment point noted)

-- ---- entries of messages

-- a message asks for this step: a point's reply asks for the Confirm of a call to that point
abbrev pub AsksFor : Sent → Step → Type 0
AsksFor text (steps.Confirm point link call accepted) =
    (text.sender ≡ Point) × (point ≡ text.point)
    × (asked_of text ≡ asked.Confirm point call accepted)
AsksFor text (steps.Boot point moment) =
    (id : List ℕ) × (asked_of text ≡ asked.Boot id point moment)
AsksFor text step = (id : List ℕ) × (kind : ActionKind) × (asked_of text ≡ asked.Step id kind step)

-- the entry of a step that a message asks for
pub record IsEntryToNote (step : Step) (entry : EntryState) : Type 0 where
  pub text : Sent
  pub asks : AsksFor text step
  pub sender : SenderState
  pub side : side_of_sender sender ≡ text.sender
  pub noted : NotedState
  pub noted_is : noted_by step sender text.frame ≡ Some noted
  pub entry_is : IsEntryOf entry (line_at text.moment text.point noted)

-- no entry, or the entry of the step
abbrev pub IsEntryFor : Option Step → Option EntryState → Type 0
IsEntryFor step None = Unit {0}
IsEntryFor None (Some entry) = ⊥
IsEntryFor (Some step) (Some entry) = IsEntryToNote step entry

abbrev pub is_confirm : Step → Bool
is_confirm (steps.Confirm point link call accepted) = true
is_confirm step = false

-- A step was performed on the book, which has this state since, and the entry is to note it. The
-- record before the step ended with the state before it.
pub record IsNotable (entry : EntryState) (confirms : Bool) (performed : Performed)
    (before : MachineState → Type 0) (new : StoreState) : Type 0 where
  pub step : Step
  pub entry_is : IsEntryToNote step entry
  pub confirms_is : confirms ≡ is_confirm step
  pub old : StoreState
  pub was : PassState
  pub pass : PassState
  pub store : IsStore old
  pub performs : Performs old was step performed new pass
  pub was_before : before old.present
