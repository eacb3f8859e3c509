-- The step in the work for a message is one that the message asks for.
use Rattle.std.proofs.Common.{◌≡◌, ℕ, Bool, false, List, Option, Some, None, Result, Ok, Err, IfSome, inl, inr, refl, sym, subst}
use Rattle.ocppj_frame.specs.declared.fault.FrameFault.{FrameFault}
use Rattle.ocppj_frame.specs.declared.fault.FrameFault.TheVariants as faults
use Rattle.ocppj_frame.specs.Tree.{Tree}
use Rattle.ocppj_frame.specs.Message.{Message}
use Rattle.ocppj_frame.specs.Message as messages
use Rattle.ocppj_frame.specs.ByCases.Message.{message_of_text}
use Rattle.ocpp_scalars.specs.declared.refusal.Refusal.{Refusal}
use Rattle.profile.specs.declared.charging_profile.Profile.{Profile}
use Rattle.profile.specs.Parts.{profile_of_parts}
use Rattle.messages.specs.declared.action.Action.{Action}
use Rattle.messages.specs.declared.action.Action.TheVariants as actions
use Rattle.messages.specs.declared.action.RemoteStartTransaction.{RemoteStartTransaction}
use Rattle.messages.specs.declared.action_kind.ActionKind.{ActionKind}
use Rattle.messages.specs.declared.fixed_answer.FixedAnswer.TheVariants as answers
use Rattle.messages.specs.declared.call_fault.CallFault.{CallFault}
use Rattle.messages.specs.declared.side.Side.{Side}
use Rattle.messages.specs.declared.side.Side.TheVariants as sides
use Rattle.messages.specs.Action.{action_of_kind}
use Rattle.messages.specs.ActionKind.{action_named, kind_of_sender}
use Rattle.messages.specs.Said.{is_accepted_reply}
use Rattle.site_core.specs.declared.step.Step.{Step}
use Rattle.site_core.specs.declared.step.Step.TheVariants as steps
use Rattle.texts.specs.declared.asked.Asked.{Asked}
use Rattle.texts.specs.declared.asked.Asked.TheVariants as asked
use Rattle.texts.specs.SentText.{Sent}
use Rattle.texts.specs.Asked.{asked_of, asked_of_kind, asked_of_message, asked_of_reply, asked_confirm, asked_with, call_numbered, remote_profile, wanted_by, wanted_by_making, wanted_by_reading, wanted_by_remote_start, IsOfCall, AsksByCall}
use Rattle.texts.specs.Theory.Asked.{asks_by_call}
use Rattle.session.specs.declared.session_core.Peer.{Peer}
use Rattle.session.specs.declared.session_core.Peer.TheVariants.{Operator, Point}
use Rattle.session.specs.Noting.{AsksFor}
use Rattle.session.specs.Session.{SessionState, side_of, sent_by}
use Rattle.session.specs.Todo.{TodoState, todo_asked, IsTodo}

-- ---- a point's reply confirms a call of the point itself

abbrev ConfirmsOwn : Sent → Asked → Type 0
ConfirmsOwn text (asked.Confirm point call accepted) = point ≡ text.point
ConfirmsOwn text what = Unit {0}

own_by_number : (text : Sent) (accepted : Bool) (number : Option ℕ)
    → ConfirmsOwn text (asked_confirm text.point accepted number)
own_by_number text accepted None = tt
own_by_number text accepted (Some number) = refl

own_by_reply : (text : Sent) (sender : Side) (id : List ℕ) (accepted : Bool)
    → ConfirmsOwn text (asked_of_reply sender text.point id accepted)
own_by_reply text sides.Operator id accepted = tt
own_by_reply text sides.Point id accepted = own_by_number text accepted (call_numbered id)

own_by_making : (text : Sent) (id : List ℕ) (kind : ActionKind) (connector : ℕ)
    (profile : Result Profile Refusal)
    → ConfirmsOwn text (asked_with id kind (wanted_by_making text connector profile))
own_by_making text id kind connector (Ok profile) = tt
own_by_making text id kind connector (Err refusal) = tt

own_remotely : (text : Sent) (id : List ℕ) (kind : ActionKind) (start : RemoteStartTransaction)
    (profile : Result (Option Profile) Refusal)
    → ConfirmsOwn text (asked_with id kind (wanted_by_remote_start text start profile))
own_remotely text id kind start (Ok profile) = tt
own_remotely text id kind start (Err refusal) = tt

own_by_action : (text : Sent) (id : List ℕ) (kind : ActionKind) (action : Action)
    → ConfirmsOwn text (asked_with id kind (wanted_by text action))
own_by_action text id kind (actions.SetChargingProfile connector parts) =
    own_by_making text id kind connector (profile_of_parts parts)
own_by_action text id kind (actions.RemoteStartTransaction start) =
    own_remotely text id kind start (remote_profile start.profile)
own_by_action text id kind (actions.Answered answers.BootNotification) = tt
own_by_action text id kind action = tt

own_by_reading : (text : Sent) (id : List ℕ) (kind : ActionKind) (reading : Result Action CallFault)
    → ConfirmsOwn text (asked_with id kind (wanted_by_reading text reading))
own_by_reading text id kind (Ok action) = own_by_action text id kind action
own_by_reading text id kind (Err fault) = tt

own_of_kind : (text : Sent) (id : List ℕ) (kind : Option ActionKind) (payload : Tree)
    → ConfirmsOwn text (asked_of_kind text id kind payload)
own_of_kind text id None payload = tt
own_of_kind text id (Some kind) payload =
    own_by_reading text id kind (action_of_kind kind payload)

own_of_message : (text : Sent) (message : Result Message FrameFault)
    → ConfirmsOwn text (asked_of_message text message)
own_of_message text (Ok (messages.call id name payload)) =
    own_of_kind text id (kind_of_sender text.sender (action_named name)) payload
own_of_message text (Ok (messages.call_result id payload)) =
    own_by_reply text text.sender id (is_accepted_reply (messages.call_result id payload))
own_of_message text (Ok (messages.call_error id)) = own_by_reply text text.sender id false
own_of_message text (Ok messages.other) = tt
own_of_message text (Err (faults.Formation id)) = tt
own_of_message text (Err fault) = tt

confirms_own : (text : Sent) → ConfirmsOwn text (asked_of text)
unfolding asked_of
confirms_own text = own_of_message text (message_of_text text.frame)

-- ---- the step in the work is the one that the message asks for

of_call : (text : Sent) (id : List ℕ) (kind : ActionKind) (step : Step) → IsOfCall step
    → asked_of text ≡ asked.Step id kind step → AsksFor text step
of_call text id kind (steps.Confirm point link call accepted) is asks = absurd is
of_call text id kind (steps.Boot point moment) is asks = absurd is
of_call text id kind step is asks = (id, kind, asks)

of_asked : (text : Sent) (peer : Peer) (what : Asked) → text.sender ≡ side_of peer
    → AsksByCall what → ConfirmsOwn text what → asked_of text ≡ what
    → IfSome (todo_asked peer what).step (AsksFor text)
of_asked text peer asked.Nothing side by_call own is = tt
of_asked text peer (asked.Respond id response) side by_call own is = tt
of_asked text peer (asked.Step id kind step) side by_call own is =
    of_call text id kind step by_call is
of_asked text peer (asked.Boot id point moment) side by_call own is = (id, is)
of_asked text (Operator unit) (asked.Confirm point call accepted) side by_call own is = tt
of_asked text (Point None) (asked.Confirm point call accepted) side by_call own is = tt
of_asked text (Point (Some link)) (asked.Confirm point call accepted) side by_call own is =
    (side, own, is)

-- the work for a message of a session has the step that the message asks for
pub asks_for : (session : SessionState) (moment : ℕ) (frame : List ℕ) (todo : TodoState)
    → IsTodo session moment frame todo
    → IfSome todo.step (AsksFor (sent_by session moment frame))
asks_for session moment frame todo (inl is) =
    let text = sent_by session moment frame in
    subst (λ (t : TodoState). IfSome t.step (AsksFor text)) (sym is)
    (of_asked text session.peer (asked_of text) refl (asks_by_call text) (confirms_own text) refl)
asks_for session moment frame todo (inr short) =
    subst (λ (t : TodoState). IfSome t.step (AsksFor (sent_by session moment frame)))
    (sym short.todo_is) tt
