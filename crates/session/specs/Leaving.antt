-- The proof that each message of a session carries when it leaves.
use Rattle.std.specs.Prelude.{ℕ, Bool, List, Option, Some, None}
use Rattle.messages.specs.declared.call.Call.{Call}
use Rattle.messages.specs.CallText.{call_text}
use Rattle.site_core.specs.declared.step.Step.TheVariants as steps
use Rattle.site_core.specs.declared.reply.Reply.TheVariants as replies
use Rattle.site_core.specs.State.{MachineState}
use Rattle.version_store.specs.Calls.{Makes}
use Rattle.version_store.specs.Passes.{PassState}
use Rattle.version_store.specs.Recording.{IsAt}
use Rattle.version_store.specs.Store.{StoreState, IsStore}
use Rattle.texts.specs.SentText.{Sent}
use Rattle.journal.specs.Account.{Covers, ReceiptState}
use Rattle.session.specs.Served.{IsServed, seen_at}
use Rattle.session.specs.Session.{SessionState}

-- A call was sent to a point over a link: its Send was made on the book while the session had the
-- lock. The record ended with the state after it.
pub record IsSentCall (is_recorded : Bool) (point : List ℕ) (link : ℕ) (call : Call)
    (seen : List MachineState) : Type 0 where
  pub old : StoreState
  pub new : StoreState
  pub store : IsStore old
  pub makes : Makes old (steps.Send point link) (replies.Sent call) new
  pub is_seen : IsAt is_recorded seen new.present

-- A message is the answer to a message of a session, with the states recorded by its step, if it
-- has one. Or it is a call that was sent.
pub data IsAnswerOrCall : Bool → List ℕ → Option (List MachineState) → Type 0 where
  of_answer : (is_recorded : Bool) (session : SessionState) (was : PassState) (text : Sent)
      (answer : List ℕ) (seen : Option (List MachineState))
      → IsServed session was (seen_at is_recorded seen) text (Some answer)
      → IsAnswerOrCall is_recorded answer seen
  of_call : (is_recorded : Bool) (point : List ℕ) (link : ℕ) (call : Call)
      (seen : List MachineState) → IsSentCall is_recorded point link call seen
      → IsAnswerOrCall is_recorded (call_text call) (Some seen)

-- If the step of a message recorded states, a receipt covers them.
abbrev pub IsCovered : Bool → Option ReceiptState → Option (List MachineState) → Type 0
IsCovered is_recorded receipt None = Unit {0}
IsCovered is_recorded None (Some seen) = ⊥
IsCovered is_recorded (Some receipt) (Some seen) = Covers is_recorded receipt seen

-- a message that may leave
pub record IsCleared (is_recorded : Bool) (message : List ℕ) (receipt : Option ReceiptState)
    (seen : Option (List MachineState)) : Type 0 where
  pub is_owed : IsAnswerOrCall is_recorded message seen
  pub is_covered : IsCovered is_recorded receipt seen
