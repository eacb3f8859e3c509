-- The request that a message makes: nothing, an answer without a step, a step, a boot, or the
-- confirmation of a call.
use Rattle.std.specs.Prelude.{ℕ, ◌≡◌, codes, Bool, true, false, List, Option, Some, None, Result, Ok, Err, if◌then◌else◌}
use Rattle.std.specs.Str.{bytes_eq}
use Rattle.ocpp_scalars.specs.declared.refusal.Refusal.{Refusal}
use Rattle.ocppj_frame.specs.declared.fault.FrameFault.{FrameFault}
use Rattle.ocppj_frame.specs.declared.fault.FrameFault.TheVariants.{Formation}
use Rattle.ocppj_frame.specs.Tree.{Tree}
use Rattle.ocppj_frame.specs.Message.{Message, call, call_result, call_error, other}
use Rattle.ocppj_frame.specs.ByCases.Message.{message_of_text}
use Rattle.profile.specs.declared.charging_profile.Profile.{Profile}
use Rattle.profile.specs.declared.parts.ProfileParts.{ProfileParts}
use Rattle.profile.specs.Parts.{profile_of_parts}
use Rattle.transactions.specs.declared.begin.Begin.{Begin}
use Rattle.messages.specs.declared.side.Side.{Side}
use Rattle.messages.specs.declared.side.Side.TheVariants.{Operator, Point}
use Rattle.messages.specs.declared.action.Action.{Action}
use Rattle.messages.specs.declared.action.RemoteStartTransaction.{RemoteStartTransaction}
use Rattle.messages.specs.declared.action.ScheduleRequest.{ScheduleRequest}
use Rattle.messages.specs.declared.action.StartTransaction.{StartTransaction}
use Rattle.messages.specs.declared.action.Action.TheVariants as actions
use Rattle.messages.specs.declared.call_fault.CallFault.{CallFault}
use Rattle.messages.specs.declared.call_fault.CallFault.TheVariants.{FormationViolation, NotImplemented}
use Rattle.messages.specs.declared.response.Response.{Response}
use Rattle.messages.specs.declared.response.Response.TheVariants.{Rejected, Schedule, Error}
use Rattle.messages.specs.declared.action_kind.ActionKind.{ActionKind}
use Rattle.messages.specs.declared.action_kind.ActionKind.TheVariants as kinds
use Rattle.messages.specs.ActionKind.{action_named, kind_of_sender}
use Rattle.messages.specs.Action.{action_of_kind}
use Rattle.messages.specs.declared.fixed_answer.FixedAnswer.TheVariants as answers
use Rattle.messages.specs.FixedAnswer.{fixed_response}
use Rattle.messages.specs.Said.{is_accepted_reply}
use Rattle.texts.specs.declared.asked.Asked.{Asked}
use Rattle.texts.specs.declared.asked.Asked.TheVariants as asked
use Rattle.texts.specs.declared.asked.Wanted.{Wanted}
use Rattle.texts.specs.declared.asked.Wanted.TheVariants as wanted
use Rattle.site_core.specs.declared.step.Step.{Step}
use Rattle.site_core.specs.declared.step.Step.TheVariants as steps
use Rattle.site_core.specs.declared.step.Take.{Take}
use Rattle.texts.specs.ByCases.Number.{number_of}
use Rattle.texts.specs.SentText.{Sent}

-- ---- actions: a step, or the answer without one

-- the answer to an action that is unknown, or that its sender doesn't send
abbrev pub not_implemented : Response
not_implemented = Error NotImplemented

-- the install of the profile that the fields make, or the rejection if they make none
abbrev pub wanted_by_making : Sent → ℕ → Result Profile Refusal → Wanted
wanted_by_making text connector (Ok profile) = wanted.Step (steps.Install text.point
    (record { connector = connector; moment = text.moment; profile = profile }))
wanted_by_making text connector (Err refusal) = wanted.Response (Rejected refusal)

-- A remote start's profile names no transaction: it comes into force with the one that the start
-- begins.
abbrev pub without_transaction : ProfileParts → ProfileParts
without_transaction parts = record parts { transaction = None }

abbrev pub profile_made : Result Profile Refusal → Result (Option Profile) Refusal
profile_made (Ok profile) = Ok (Some profile)
profile_made (Err refusal) = Err refusal

-- the profile that a remote start's fields make, if it has any, or the refusal if they make none
abbrev pub remote_profile : Option ProfileParts → Result (Option Profile) Refusal
remote_profile None = Ok None
remote_profile (Some parts) = profile_made (profile_of_parts (without_transaction parts))

abbrev pub wanted_by_remote_start : Sent → RemoteStartTransaction → Result (Option Profile) Refusal
    → Wanted
wanted_by_remote_start text start (Ok profile) =
    wanted.Step (steps.RemoteStart text.point start.connector start.id_tag profile)
wanted_by_remote_start text start (Err refusal) = wanted.Response (Rejected refusal)

-- the beginning of a transaction, from the fields of the CALL
abbrev pub begin_of : StartTransaction → Begin
begin_of start =
    record { id_tag = start.id_tag; meter_start = start.meter_start; timestamp = start.timestamp }

-- a request from the moment of the message on, whichever versions were seen before
abbrev pub take_of : Sent → ScheduleRequest → Take
take_of text request = record {
  point = text.point;
  connector = request.connector;
  start = text.moment;
  duration = request.duration;
  unit = request.unit;
  seen = 0;
}

abbrev pub wanted_by : Sent → Action → Wanted
wanted_by text (actions.SetChargingProfile connector parts) =
    wanted_by_making text connector (profile_of_parts parts)
wanted_by text (actions.ClearChargingProfile criteria) =
    wanted.Step (steps.Clear text.point criteria)
wanted_by text (actions.GetCompositeSchedule request) =
    wanted.Step (steps.Take (take_of text request))
wanted_by text (actions.RemoteStartTransaction start) =
    wanted_by_remote_start text start (remote_profile start.profile)
wanted_by text (actions.StartTransaction start) =
    wanted.Step (steps.Start text.point start.connector (begin_of start))
wanted_by text (actions.StopTransaction transaction) =
    wanted.Step (steps.Stop text.point transaction)
wanted_by text (actions.AuditPoint connector duration) =
    wanted.Step (steps.Audit text.point connector duration)
wanted_by text actions.PointStatus = wanted.Step (steps.Status text.point)
wanted_by text (actions.Answered answers.BootNotification) = wanted.Boot text.point text.moment
wanted_by text (actions.Answered answer) = wanted.Response (fixed_response answer text.moment)
wanted_by text actions.NotACall = wanted.Response not_implemented

-- ---- CALLs

-- a CALL that can't be read is answered with its first fault
abbrev pub wanted_by_reading : Sent → Result Action CallFault → Wanted
wanted_by_reading text (Ok action) = wanted_by text action
wanted_by_reading text (Err fault) = wanted.Response (Error fault)

-- the request of the CALL of this id: the step, the answer, or a boot
abbrev pub asked_with : List ℕ → ActionKind → Wanted → Asked
asked_with id kind (wanted.Step step) = asked.Step id kind step
asked_with id kind (wanted.Response response) = asked.Respond id response
asked_with id kind (wanted.Boot point moment) = asked.Boot id point moment

-- an action that is unknown, or that its sender doesn't send, isn't implemented, whatever its
-- fields are
abbrev pub asked_of_kind : Sent → List ℕ → Option ActionKind → Tree → Asked
asked_of_kind text id None payload = asked.Respond id not_implemented
asked_of_kind text id (Some kind) payload =
    asked_with id kind (wanted_by_reading text (action_of_kind kind payload))

abbrev pub asked_of_call : Sent → List ℕ → List ℕ → Tree → Asked
asked_of_call text id name payload =
    asked_of_kind text id (kind_of_sender text.sender (action_named name)) payload

-- ---- replies to calls (OCPP-J 1.6, 4.2.2 and 4.2.3)

-- the number of the call whose decimal text the id is
abbrev pub call_numbered : List ℕ → Option ℕ
call_numbered id = if bytes_eq id (codes "0") then Some 0 else number_of id

abbrev pub asked_confirm : List ℕ → Bool → Option ℕ → Asked
asked_confirm point accepted None = asked.Nothing
asked_confirm point accepted (Some number) = asked.Confirm point number accepted

-- A point's reply confirms the call of its id, and says whether the point accepts it. An operator
-- is sent no calls.
abbrev pub asked_of_reply : Side → List ℕ → List ℕ → Bool → Asked
asked_of_reply Operator point id accepted = asked.Nothing
asked_of_reply Point point id accepted = asked_confirm point accepted (call_numbered id)

-- ---- messages

-- only a CALL is answered, even a malformed one if it has an id
abbrev pub asked_of_message : Sent → Result Message FrameFault → Asked
asked_of_message text (Ok (call id name payload)) = asked_of_call text id name payload
asked_of_message text (Ok (call_result id payload)) =
    asked_of_reply text.sender text.point id (is_accepted_reply (call_result id payload))
asked_of_message text (Ok (call_error id)) = asked_of_reply text.sender text.point id false
asked_of_message text (Ok other) = asked.Nothing
asked_of_message text (Err (Formation id)) = asked.Respond id (Error FormationViolation)
asked_of_message text (Err _) = asked.Nothing

unfoldable pub asked_of : Sent → Asked
asked_of text = asked_of_message text (message_of_text text.frame)

-- ---- the requests of all messages

-- The steps that a CALL may request with its outcome as the answer. Steps over a link come from the
-- link itself or from a reply, and a verdict comes from a reply.
abbrev pub IsOfCall : Step → Type 0
IsOfCall (steps.Install point row) = Unit {0}
IsOfCall (steps.Clear point criteria) = Unit {0}
IsOfCall (steps.Start point connector begin) = Unit {0}
IsOfCall (steps.Stop point number) = Unit {0}
IsOfCall (steps.Take take) = Unit {0}
IsOfCall (steps.Audit point connector duration) = Unit {0}
IsOfCall (steps.Status point) = Unit {0}
IsOfCall (steps.RemoteStart point connector id_tag profile) = Unit {0}
IsOfCall step = ⊥

abbrev pub is_schedule : Response → Bool
is_schedule (Schedule response) = true
is_schedule response = false

-- a step of a CALL, or an answer without a schedule
abbrev pub AsksByCall : Asked → Type 0
AsksByCall (asked.Step id kind step) = IsOfCall step
AsksByCall (asked.Respond id response) = is_schedule response ≡ false
AsksByCall _ = Unit {0}

-- ---- held messages

abbrev pub is_schedule_kind : Option ActionKind → Bool
is_schedule_kind (Some kinds.GetCompositeSchedule) = true
is_schedule_kind _ = false

-- whether a message is a CALL of GetCompositeSchedule
abbrev pub asks_schedule : Result Message FrameFault → Bool
asks_schedule (Ok (call id name payload)) = is_schedule_kind (action_named name)
asks_schedule _ = false

-- the request of a held message, if that is a CALL of GetCompositeSchedule
abbrev pub hold_of : Sent → Option Asked
hold_of text = if asks_schedule (message_of_text text.frame) then Some (asked_of text) else None
