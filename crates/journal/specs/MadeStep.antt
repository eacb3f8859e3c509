-- A step that was made on a book and changed something, as it is noted.
use Rattle.std.specs.Prelude.{ℕ}
use Rattle.site_core.specs.declared.step.Step.{Step}
use Rattle.site_core.specs.declared.reply.Reply.{Reply}
use Rattle.site_core.specs.State.{MachineState}
use Rattle.version_store.specs.Store.{StoreState, IsStore}
use Rattle.version_store.specs.Calls.{Makes}
use Rattle.journal.specs.Entry.{EntryState, IsEntryOf, numbered}
use Rattle.journal.specs.Line.{LineState}
use Rattle.journal.specs.NotedStep.{LeadsTo}

-- A step was made on the book while the session held it. The entry with this number is a line that
-- leads to the step's state. The recorded states of the book ended with the state before the step,
-- and then with the one after it.
pub record IsOfMadeStep (entry : EntryState) (number : ℕ) (before after : MachineState → Type 0)
    : Type 0 where
  pub line : LineState
  pub entry_is : IsEntryOf entry line
  pub old : StoreState
  pub new : StoreState
  pub step : Step
  pub told : Reply
  pub store : IsStore old
  pub makes : Makes old step told new
  pub leads : LeadsTo old.present (numbered line number)
      (record { reply = told; after = new.present })
  pub was_before : before old.present
  pub is_after : after new.present
