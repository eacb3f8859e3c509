-- The texts of answers, byte for byte: keys in this order, no blanks, limits with one decimal.
use Rattle.std.specs.Prelude.{Bool, true, false, if◌then◌else◌, ℕ, ℤ, List, [], ◌∷◌, map, Option, Some, codes}
use Rattle.std.specs.Fmt.{decimal, signed_decimal}
use Rattle.ocpp_scalars.specs.declared.refusal.Refusal.{Refusal}
use Rattle.ocpp_scalars.specs.Refusal.{refusal_name}
use Rattle.ocpp_scalars.specs.Writing.{tenths_text}
use Rattle.profile.specs.declared.unit.Unit.{Unit}
use Rattle.meaning.specs.Composite.{CompositeSchedule}
use Rattle.meaning.specs.declared.composite.CompositePeriod.{CompositePeriod}
use Rattle.ocpp_scalars.specs.declared.refusal.Refusal.TheVariants.{OutOfMemory}
use Rattle.ocppj_frame.specs.Write.{call_result_text, call_error_text}
use Rattle.messages.specs.declared.response.Response.{Response}
use Rattle.messages.specs.declared.response.Response.TheVariants.{Accepted, Rejected, Unknown, BootNotification, Heartbeat, Authorize, StartTransaction, Empty, UnknownVendorId, Error}
use Rattle.messages.specs.declared.response.Response.TheVariants as responses
use Rattle.messages.specs.declared.response.ScheduleResponse.{ScheduleResponse}
use Rattle.messages.specs.declared.response.PointStatus.{PointStatus}
use Rattle.messages.specs.declared.response.AuditOutcome.{AuditOutcome}
use Rattle.messages.specs.declared.response.AuditOutcome.TheVariants as outcomes
use Rattle.messages.specs.ObjectText.{list_text, object_text, string_text, time_text}
use Rattle.messages.specs.Names.{unit_text}
use Rattle.messages.specs.CallFault.{fault_code, fault_description}

-- OCPP 1.6, chapter 6, SetChargingProfile.conf, ClearChargingProfile.conf, DataTransfer.conf, and
-- chapter 7, IdTagInfo
abbrev pub status_text : List ℕ → List ℕ
status_text status = object_text ((codes "status", Some (string_text status)) ∷ [])

-- OCPP 1.6, chapter 6, BootNotification.conf: the interval between heartbeats is in seconds
unfoldable pub boot_notification_text : ℕ → List ℕ
boot_notification_text now = object_text (
    (codes "currentTime", Some (time_text now))
    ∷ (codes "interval", Some (codes "300"))
    ∷ (codes "status", Some (string_text (codes "Accepted")))
    ∷ [])

-- OCPP 1.6, chapter 6, Heartbeat.conf
unfoldable pub heartbeat_text : ℕ → List ℕ
heartbeat_text now = object_text ((codes "currentTime", Some (time_text now)) ∷ [])

-- every idTag is accepted
abbrev pub id_tag_info : List ℕ × Option (List ℕ)
id_tag_info = (codes "idTagInfo", Some (status_text (codes "Accepted")))

-- OCPP 1.6, chapter 6, Authorize.conf
abbrev pub authorize_text : List ℕ
authorize_text = object_text (id_tag_info ∷ [])

-- OCPP 1.6, chapter 6, StartTransaction.conf, with the number of the transaction
unfoldable pub start_transaction_text : ℤ → List ℕ
start_transaction_text transaction = object_text (
    id_tag_info ∷ (codes "transactionId", Some (signed_decimal transaction)) ∷ [])

-- OCPP 1.6, chapter 6, SetChargingProfile.conf and GetCompositeSchedule.conf; the field `reason` is
-- our own
unfoldable pub rejected_text : Refusal → List ℕ
rejected_text refusal = object_text (
    (codes "status", Some (string_text (codes "Rejected")))
    ∷ (codes "reason", Some (string_text (refusal_name refusal)))
    ∷ [])

-- OCPP 1.6, chapter 7, ChargingSchedulePeriod, of a composite schedule
unfoldable pub composite_period_text : CompositePeriod → List ℕ
composite_period_text period = object_text (
    (codes "startPeriod", Some (decimal period.start))
    ∷ (codes "limit", Some (tenths_text period.limit))
    ∷ [])

-- OCPP 1.6, chapter 7, ChargingSchedule, of a composite schedule, its limits in a unit
unfoldable pub composite_schedule_text : Unit → CompositeSchedule → List ℕ
composite_schedule_text unit schedule =
    let periods = map composite_period_text schedule.periods in
    object_text (
    (codes "duration", Some (decimal schedule.duration))
    ∷ (codes "chargingRateUnit", Some (string_text (unit_text unit)))
    ∷ (codes "chargingSchedulePeriod", Some (list_text periods))
    ∷ [])

-- OCPP 1.6, chapter 6, GetCompositeSchedule.conf: the requested connector, the start, and the
-- schedule in the site's unit
unfoldable pub composite_text : ScheduleResponse → List ℕ
composite_text response = object_text (
    (codes "status", Some (string_text (codes "Accepted")))
    ∷ (codes "connectorId", Some (decimal response.connector))
    ∷ (codes "scheduleStart", Some (time_text response.start))
    ∷ (codes "chargingSchedule", Some (composite_schedule_text response.unit response.schedule))
    ∷ [])

-- the outcome of an audit; names of our own
abbrev pub audit_name : AuditOutcome → List ℕ
audit_name outcomes.NoAudit = codes "None"
audit_name outcomes.Waiting = codes "Waiting"
audit_name outcomes.Agrees = codes "Agrees"
audit_name outcomes.Differs = codes "Differs"
audit_name outcomes.Rejected = codes "Rejected"
audit_name outcomes.Unsettled = codes "Unsettled"

-- the answer to PointStatus, our own
unfoldable pub point_status_text : PointStatus → List ℕ
point_status_text status = object_text (
    (codes "status", Some (string_text (codes "Accepted")))
    ∷ (codes "version", Some (decimal status.version))
    ∷ (codes "outbox", Some (decimal status.outbox))
    ∷ (codes "audit", Some (string_text (audit_name status.audit)))
    ∷ [])

abbrev pub is_out_of_memory : Refusal → Bool
is_out_of_memory OutOfMemory = true
is_out_of_memory _ = false

-- a refused install or request is a CALLRESULT; `OutOfMemory` is a CALLERROR, as for every action
abbrev pub refusal_text : List ℕ → Refusal → List ℕ
refusal_text id refusal =
    if is_out_of_memory refusal then call_error_text id (codes "InternalError") (codes "OutOfMemory")
    else call_result_text id (rejected_text refusal)

-- the message that answers the CALL of an id (OCPP-J 1.6, 4.2): a CALLRESULT, or a CALLERROR with
-- the code and the description of the fault
abbrev pub response_text : List ℕ → Response → List ℕ
response_text id Accepted = call_result_text id (status_text (codes "Accepted"))
response_text id (Rejected refusal) = refusal_text id refusal
response_text id Unknown = call_result_text id (status_text (codes "Unknown"))
response_text id (responses.Schedule response) = call_result_text id (composite_text response)
response_text id (responses.PointStatus status) = call_result_text id (point_status_text status)
response_text id (BootNotification now) = call_result_text id (boot_notification_text now)
response_text id (Heartbeat now) = call_result_text id (heartbeat_text now)
response_text id Authorize = call_result_text id authorize_text
response_text id (StartTransaction transaction) = call_result_text id (start_transaction_text transaction)
response_text id Empty = call_result_text id (object_text [])
response_text id UnknownVendorId = call_result_text id (status_text (codes "UnknownVendorId"))
response_text id (Error fault) = call_error_text id (fault_code fault) (fault_description fault)
