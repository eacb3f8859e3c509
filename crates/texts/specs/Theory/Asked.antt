-- A message requests a step of a CALL, or an answer without a schedule.
use Rattle.std.proofs.Common.{◌≡◌, ℕ, List, Bool, true, false, cond, Option, Some, None, Result, Ok, Err, IfOk, sym, subst, refl}
use Rattle.ocpp_scalars.specs.declared.refusal.Refusal.{Refusal}
use Rattle.ocppj_frame.specs.declared.fault.FrameFault.{FrameFault}
use Rattle.ocppj_frame.specs.declared.fault.FrameFault.TheVariants as faults
use Rattle.ocppj_frame.specs.Tree.{Tree}
use Rattle.ocppj_frame.specs.Message.{Message}
use Rattle.ocppj_frame.specs.Message as messages
use Rattle.ocppj_frame.specs.ByCases.Message.{message_of_text}
use Rattle.profile.specs.declared.charging_profile.Profile.{Profile}
use Rattle.profile.specs.Parts.{profile_of_parts}
use Rattle.messages.specs.declared.action.Action.{Action}
use Rattle.messages.specs.declared.action.Action.TheVariants as actions
use Rattle.messages.specs.declared.action.RemoteStartTransaction.{RemoteStartTransaction}
use Rattle.messages.specs.declared.action_kind.ActionKind.{ActionKind}
use Rattle.messages.specs.declared.call_fault.CallFault.{CallFault}
use Rattle.messages.specs.declared.response.Response.{Response}
use Rattle.messages.specs.declared.side.Side.{Side}
use Rattle.messages.specs.declared.side.Side.TheVariants.{Operator, Point}
use Rattle.messages.specs.declared.fixed_answer.FixedAnswer.{FixedAnswer}
use Rattle.messages.specs.declared.fixed_answer.FixedAnswer.TheVariants as answers
use Rattle.messages.specs.ActionKind.{action_named, kind_of_sender}
use Rattle.messages.specs.FixedAnswer.{fixed_response}
use Rattle.messages.specs.Said.{is_accepted_reply}
use Rattle.messages.specs.Action.{action_of_kind}
use Rattle.site_core.specs.declared.step.Step.{Step}
use Rattle.site_core.specs.declared.step.Step.TheVariants as acts
use Rattle.texts.specs.declared.asked.Asked.{Asked}
use Rattle.texts.specs.declared.asked.Wanted.{Wanted}
use Rattle.texts.specs.declared.asked.Wanted.TheVariants as wants
use Rattle.texts.specs.SentText.{Sent}
use Rattle.texts.specs.Asked.{wanted_by_making, remote_profile, wanted_by_remote_start, wanted_by, wanted_by_reading, asked_with, asked_of_kind, call_numbered, asked_confirm, asked_of_reply, asked_of_message, asked_of, asks_schedule, hold_of, IsOfCall, is_schedule, AsksByCall}

abbrev IsOfAction : Wanted → Type 0
IsOfAction (wants.Step step) = IsOfCall step
IsOfAction (wants.Response response) = is_schedule response ≡ false
IsOfAction (wants.Boot point moment) = Unit {0}

made : (text : Sent) (connector : ℕ) (profile : Result Profile Refusal)
    → IsOfAction (wanted_by_making text connector profile)
made text connector (Ok profile) = tt
made text connector (Err refusal) = refl

remotely : (text : Sent) (start : RemoteStartTransaction)
    (profile : Result (Option Profile) Refusal)
    → IsOfAction (wanted_by_remote_start text start profile)
remotely text start (Ok profile) = tt
remotely text start (Err refusal) = refl

fixed : (answer : FixedAnswer) (now : ℕ) → is_schedule (fixed_response answer now) ≡ false
fixed answers.BootNotification now = refl
fixed answers.Heartbeat now = refl
fixed answers.Authorize now = refl
fixed answers.Empty now = refl
fixed answers.UnknownVendorId now = refl

wanted : (text : Sent) (action : Action) → IsOfAction (wanted_by text action)
wanted text (actions.SetChargingProfile connector parts) =
    made text connector (profile_of_parts parts)
wanted text (actions.RemoteStartTransaction start) =
    remotely text start (remote_profile start.profile)
wanted text (actions.Answered answers.BootNotification) = tt
wanted text (actions.Answered answer) = fixed answer text.moment
wanted text actions.NotACall = refl
-- each other action is a step
wanted text action = tt

read : (text : Sent) (reading : Result Action CallFault)
    → IsOfAction (wanted_by_reading text reading)
read text (Ok action) = wanted text action
read text (Err fault) = refl

with_wanted : (id : List ℕ) (kind : ActionKind) (want : Wanted) → IsOfAction want
    → AsksByCall (asked_with id kind want)
with_wanted id kind (wants.Step step) is = is
with_wanted id kind (wants.Response response) is = is
with_wanted id kind (wants.Boot point moment) is = tt

of_kind : (text : Sent) (id : List ℕ) (kind : Option ActionKind) (payload : Tree)
    → AsksByCall (asked_of_kind text id kind payload)
of_kind text id None payload = refl
of_kind text id (Some kind) payload =
    with_wanted id kind (wanted_by_reading text (action_of_kind kind payload))
    (read text (action_of_kind kind payload))

confirm : (point : List ℕ) (accepted : Bool) (number : Option ℕ)
    → AsksByCall (asked_confirm point accepted number)
confirm point accepted None = tt
confirm point accepted (Some number) = tt

of_reply : (sender : Side) (point id : List ℕ) (accepted : Bool)
    → AsksByCall (asked_of_reply sender point id accepted)
of_reply Operator point id accepted = tt
of_reply Point point id accepted = confirm point accepted (call_numbered id)

of_message : (text : Sent) (message : Result Message FrameFault)
    → AsksByCall (asked_of_message text message)
of_message text (Ok (messages.call id name payload)) =
    of_kind text id (kind_of_sender text.sender (action_named name)) payload
of_message text (Ok (messages.call_result id payload)) =
    of_reply text.sender text.point id (is_accepted_reply (messages.call_result id payload))
of_message text (Ok (messages.call_error id)) = of_reply text.sender text.point id false
of_message text (Ok messages.other) = tt
of_message text (Err (faults.Formation id)) = refl
of_message text (Err fault) = tt

pub asks_by_call : (text : Sent) → AsksByCall (asked_of text)
unfolding asked_of
asks_by_call text = of_message text (message_of_text text.frame)

-- the request of a message, if memory lasted
pub if_asked : {E : Type 0} (text : Sent) (message : Result Message FrameFault)
    (result : Result Asked E)
    → IfOk result (λ (asked : Asked). asked ≡ asked_of_message text message)
    → IfOk result AsksByCall
if_asked text message (Ok asked) is = subst AsksByCall (sym is) (of_message text message)
if_asked text message (Err unread) is = tt

held_asked : (test : Bool) (first asked : Asked) → Some asked ≡ cond test (Some first) None
    → asked ≡ first
held_asked true first asked is = cc
held_asked false first asked is = absurd (cc)

-- the same of a held message
pub hold_asks_by_call : (text : Sent) (asked : Asked) → Some asked ≡ hold_of text
    → AsksByCall asked
hold_asks_by_call text asked is =
    let same = held_asked (asks_schedule (message_of_text text.frame)) (asked_of text) asked is in
    subst AsksByCall (sym same) (asks_by_call text)
