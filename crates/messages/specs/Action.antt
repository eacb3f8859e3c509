-- The action of a CALL by its name and payload, or its first fault: the fields of each action, in
-- the order of the checks (OCPP 1.6, chapters 4 to 6).
use Rattle.std.specs.Prelude.{◌≡◌, ℕ, List, Bool, true, false, Option, Some, None, Result, Ok, Err}
use Rattle.std.specs.List.{AllByRecursion}
use Rattle.ocpp_scalars.specs.ResultSteps.{◌>>=◌}
use Rattle.ocppj_frame.specs.Tree.{Tree}
use Rattle.ocppj_frame.specs.Message.{Message, call}
use Rattle.profile.specs.Names.{purpose_named, unit_named}
use Rattle.messages.specs.declared.action.Action.{Action}
use Rattle.messages.specs.declared.action.Action.TheVariants as actions
use Rattle.messages.specs.declared.action_kind.ActionKind.{ActionKind}
use Rattle.messages.specs.declared.action_kind.ActionKind.TheVariants.{SetChargingProfile, ClearChargingProfile, GetCompositeSchedule, RemoteStartTransaction, AuditPoint, PointStatus, StartTransaction, StopTransaction}
use Rattle.messages.specs.declared.call_fault.CallFault.{CallFault}
use Rattle.messages.specs.declared.call_fault.CallFault.TheVariants.{NotImplemented}
use Rattle.messages.specs.declared.field_name.FieldName.TheVariants.{ChargingProfile, ChargingProfilePurpose, ChargingRateUnit, ConnectorId, CsChargingProfiles, Duration, Id, IdTag, MeterStart, StackLevel, Timestamp, TransactionId}
use Rattle.messages.specs.declared.field_row.FieldKind.{FieldKind}
use Rattle.messages.specs.declared.field_row.FieldKind.TheVariants.{IdToken, Object, Objects}
use Rattle.messages.specs.declared.fixed_answer.FixedAnswer.{FixedAnswer}
use Rattle.messages.specs.ActionKind.{action_named, answer_of_kind, fields_of}
use Rattle.messages.specs.FieldRow.{kind_of_row}
use Rattle.messages.specs.Fields.{required, optional, whole, whole_from_zero, instant, one_name_of, object, text, as_id_tag}
use Rattle.messages.specs.ProfileFields.{profile_of, optional_profile_of}

-- ---- the fields of operators' actions

-- SetChargingProfile.req
unfoldable pub set_charging_profile_of : Tree → Result Action CallFault
set_charging_profile_of payload = do
  connector ← required (whole_from_zero payload ConnectorId)
  fields ← required (object payload CsChargingProfiles)
  profile ← profile_of fields
  Ok (actions.SetChargingProfile connector profile)

-- ClearChargingProfile.req
unfoldable pub clear_charging_profile_of : Tree → Result Action CallFault
clear_charging_profile_of payload = do
  id ← optional (whole payload Id)
  connector ← optional (whole_from_zero payload ConnectorId)
  purpose ← optional (one_name_of purpose_named payload ChargingProfilePurpose)
  stack_level ← optional (whole_from_zero payload StackLevel)
  Ok (actions.ClearChargingProfile (record
      { id = id; connector = connector; purpose = purpose; stack_level = stack_level }))

-- GetCompositeSchedule.req
unfoldable pub get_composite_schedule_of : Tree → Result Action CallFault
get_composite_schedule_of payload = do
  connector ← required (whole_from_zero payload ConnectorId)
  duration ← required (whole_from_zero payload Duration)
  unit ← optional (one_name_of unit_named payload ChargingRateUnit)
  Ok (actions.GetCompositeSchedule (record
      { connector = connector; duration = duration; unit = unit }))

-- an idTag with its length
unfoldable pub id_tag_of : Tree → Result (List ℕ) CallFault
id_tag_of payload = do
  tag ← required (text payload IdTag)
  as_id_tag IdTag tag

-- RemoteStartTransaction.req
unfoldable pub remote_start_of : Tree → Result Action CallFault
remote_start_of payload = do
  connector ← required (whole_from_zero payload ConnectorId)
  tag ← id_tag_of payload
  fields ← optional (object payload ChargingProfile)
  profile ← optional_profile_of fields
  Ok (actions.RemoteStartTransaction (record
      { connector = connector; id_tag = tag; profile = profile }))

-- AuditPoint, our own
unfoldable pub audit_point_of : Tree → Result Action CallFault
audit_point_of payload = do
  connector ← required (whole_from_zero payload ConnectorId)
  duration ← required (whole_from_zero payload Duration)
  Ok (actions.AuditPoint connector duration)

-- ---- the fields of points' actions that this system uses

-- StartTransaction.req
unfoldable pub start_transaction_of : Tree → Result Action CallFault
start_transaction_of payload = do
  connector ← required (whole_from_zero payload ConnectorId)
  tag ← id_tag_of payload
  meter_start ← required (whole payload MeterStart)
  timestamp ← required (instant payload Timestamp)
  Ok (actions.StartTransaction (record
      { connector = connector; id_tag = tag; meter_start = meter_start; timestamp = timestamp }))

-- StopTransaction.req
unfoldable pub stop_transaction_of : Tree → Result Action CallFault
stop_transaction_of payload = do
  transaction ← required (whole payload TransactionId)
  Ok (actions.StopTransaction transaction)

-- ---- actions

-- An action whose fields aren't read; by the law `first_faults` each action has fields or an
-- answer.
abbrev pub action_answered : Option FixedAnswer → Result Action CallFault
action_answered (Some answer) = Ok (actions.Answered answer)
action_answered None = Err NotImplemented

-- An action with its fields.
abbrev pub action_of_kind : ActionKind → Tree → Result Action CallFault
action_of_kind SetChargingProfile payload = set_charging_profile_of payload
action_of_kind ClearChargingProfile payload = clear_charging_profile_of payload
action_of_kind GetCompositeSchedule payload = get_composite_schedule_of payload
action_of_kind RemoteStartTransaction payload = remote_start_of payload
action_of_kind AuditPoint payload = audit_point_of payload
action_of_kind PointStatus payload = Ok actions.PointStatus
action_of_kind StartTransaction payload = start_transaction_of payload
action_of_kind StopTransaction payload = stop_transaction_of payload
action_of_kind kind payload = action_answered (answer_of_kind kind)

-- A CALL with an unknown action is NotImplemented.
abbrev pub action_if_known : Option ActionKind → Tree → Result Action CallFault
action_if_known None payload = Err NotImplemented
action_if_known (Some kind) payload = action_of_kind kind payload

-- The action of a CALL with this name and payload, or its first fault.
abbrev pub action_of : List ℕ → Tree → Result Action CallFault
action_of name payload = action_if_known (action_named name) payload

-- The action of a message, or none if it isn't a CALL.
abbrev pub action_in : Message → Result Action CallFault
action_in (call id name payload) = action_of name payload
action_in _ = Ok actions.NotACall

-- ---- memory

-- The action that a message names, if it is known.
abbrev pub kind_asked : Message → Option ActionKind
kind_asked (call id name payload) = action_named name
kind_asked _ = None

-- Only a profile's periods and an idTag need memory.
abbrev pub takes_memory : FieldKind → Bool
takes_memory IdToken = true
takes_memory (Object object) = true
takes_memory (Objects object) = true
takes_memory kind = false

abbrev pub NeedsNoMemory : Option ActionKind → Type 0
NeedsNoMemory (Some kind) =
    AllByRecursion (λ row. takes_memory (kind_of_row row) ≡ false) (fields_of kind)
NeedsNoMemory None = Unit {0}
