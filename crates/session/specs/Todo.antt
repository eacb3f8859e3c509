-- The work for a message of a session: at most one step, and an answer.
use Rattle.std.specs.Prelude.{ℕ, ◌≡◌, ◌⊎◌, Bool, List, Option, Some, None, option_map}
use Rattle.ocpp_scalars.specs.declared.instant.Instant.{Instant}
use Rattle.ocpp_scalars.specs.declared.refusal.Refusal.TheVariants.{OutOfMemory}
use Rattle.ocppj_frame.specs.ByCases.Message.{message_of_text}
use Rattle.profile.specs.declared.unit.Unit.{Unit}
use Rattle.messages.specs.declared.call_fault.CallFault.TheVariants.{Refused}
use Rattle.messages.specs.declared.response.Response.TheVariants.{BootNotification, Error}
use Rattle.messages.specs.ResponseText.{response_text}
use Rattle.site_core.specs.declared.step.Step.{Step}
use Rattle.site_core.specs.declared.step.Step.TheVariants as steps
use Rattle.texts.specs.declared.asked.Asked.{Asked}
use Rattle.texts.specs.declared.asked.Asked.TheVariants as asked
use Rattle.texts.specs.Asked.{asked_of}
use Rattle.texts.specs.Response.{response_of}
use Rattle.texts.specs.SentText.{sent}
use Rattle.texts.specs.Unread.{IsCallOf}
use Rattle.session.specs.declared.session_core.Peer.{Peer}
use Rattle.session.specs.declared.session_core.Peer.TheVariants.{Operator, Point}
use Rattle.session.specs.declared.outcome.Outcome.{Outcome}
use Rattle.session.specs.declared.todo.Owed.{Owed}
use Rattle.session.specs.declared.todo.Owed.TheVariants as owed
use Rattle.session.specs.Outcome.{result_of}
use Rattle.session.specs.Session.{SessionState, side_of, answer_unit}

pub record TodoState : Type 0 where
  -- the step that the message asks for, if it asks for one, until it is taken
  pub step : Option Step
  -- the answer that its sender is owed
  pub owed : Owed

-- a point's reply confirms a call over the point's present link, if it has one
abbrev pub confirming : Peer → List ℕ → ℕ → Bool → Option Step
confirming (Operator unit) point call accepted = None
confirming (Point None) point call accepted = None
confirming (Point (Some link)) point call accepted =
    Some (steps.Confirm point link call accepted)

abbrev pub todo_asked : Peer → Asked → TodoState
todo_asked peer asked.Nothing = record { step = None; owed = owed.Nothing }
todo_asked peer (asked.Respond id response) =
    record { step = None; owed = owed.Response id response }
todo_asked peer (asked.Step id kind step) =
    record { step = Some step; owed = owed.Outcome id kind }
todo_asked peer (asked.Boot id point moment) = record {
  step = Some (steps.Boot point moment);
  owed = owed.Boot id moment;
}
todo_asked peer (asked.Confirm point call accepted) =
    record { step = confirming peer point call accepted; owed = owed.Nothing }

-- the work for a message that comes at a moment
abbrev pub todo_of : SessionState → Instant → List ℕ → TodoState
todo_of session now text =
    todo_asked session.peer (asked_of (sent now (side_of session.peer) session.point text))

-- a CALL for which memory runs out is answered with OutOfMemory, and asks for no step
abbrev pub without_memory : List ℕ → TodoState
without_memory id = record { step = None; owed = owed.Response id (Error (Refused OutOfMemory)) }

pub record IsOutOfMemory (text : List ℕ) (todo : TodoState) : Type 0 where
  pub id : List ℕ
  pub call : IsCallOf (message_of_text text) id
  pub todo_is : todo ≡ without_memory id

abbrev pub IsTodo : SessionState → Instant → List ℕ → TodoState → Type 0
IsTodo session now text todo = (todo ≡ todo_of session now text) ⊎ IsOutOfMemory text todo

-- A step that can't be noted isn't made: its CALL is answered with OutOfMemory.
abbrev pub IsUnnoted : Owed → TodoState → Type 0
IsUnnoted (owed.Outcome id kind) todo = todo ≡ without_memory id
IsUnnoted (owed.Boot id moment) todo = todo ≡ without_memory id
IsUnnoted other todo = ⊥

-- ---- answers

-- the message that is owed, on a site of a unit, once the step has an outcome
abbrev pub text_owed : Owed → Unit → Option Outcome → Option (List ℕ)
text_owed owed.Nothing unit outcome = None
text_owed (owed.Response id response) unit outcome = Some (response_text id response)
text_owed (owed.Boot id moment) unit outcome =
    Some (response_text id (BootNotification moment))
text_owed (owed.Outcome id kind) unit None = None
text_owed (owed.Outcome id kind) unit (Some outcome) =
    option_map (response_text id) (response_of unit kind (result_of outcome))

abbrev pub answer_text : SessionState → TodoState → Option Outcome → Option (List ℕ)
answer_text session todo outcome = text_owed todo.owed (answer_unit session.peer) outcome
