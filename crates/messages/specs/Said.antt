-- A charge point's reply: whether it accepts, and the composite schedule in a reply to a
-- GetCompositeSchedule (OCPP 1.6, 5.7, and chapter 6, the .conf payloads).
use Rattle.std.specs.Prelude.{ℕ, List, map, Bool, false, Result, Ok, Err, codes, if◌then◌else◌}
use Rattle.std.specs.Str.{bytes_eq}
use Rattle.ocpp_scalars.specs.ResultSteps.{◌>>=◌}
use Rattle.ocppj_frame.specs.declared.field.Field.{Field}
use Rattle.ocppj_frame.specs.declared.field.Field.TheVariants.{Value}
use Rattle.ocppj_frame.specs.Message.{Message, call_result}
use Rattle.ocppj_frame.specs.Tree.{Tree}
use Rattle.profile.specs.declared.period.Period.{Period}
use Rattle.meaning.specs.declared.composite.CompositePeriod.{CompositePeriod}
use Rattle.meaning.specs.declared.said.Said.{Said}
use Rattle.meaning.specs.declared.said.Said.TheVariants.{Refused, Unread, Schedule}
use Rattle.messages.specs.declared.call_fault.CallFault.{CallFault}
use Rattle.messages.specs.declared.field_name.FieldName.TheVariants.{ChargingSchedule, ConnectorId, ScheduleStart, Status}
use Rattle.messages.specs.Fields.{required, optional, whole_from_zero, instant, object, text}
use Rattle.messages.specs.ProfileFields.{schedule_of}

-- The status is the text Accepted, exactly.
abbrev pub is_accepted : Field (List ℕ) → Bool
is_accepted (Value status) = bytes_eq status (codes "Accepted")
is_accepted _ = false

-- whether a message is a reply that accepts: only a CALLRESULT can be one
abbrev pub is_accepted_reply : Message → Bool
is_accepted_reply (call_result id payload) = is_accepted (text payload Status).field
is_accepted_reply _ = false

-- A period by its start and its limit.
abbrev pub composite_period : Period → CompositePeriod
composite_period period = record { start = period.start; limit = period.limit }

-- The schedule in an accepted reply, or a fault of its fields. Every field of the schedule is
-- checked as that of a profile. startSchedule, minChargingRate, numberPhases and the connector are
-- then left out.
unfoldable pub schedule_said : Tree → Result Said CallFault
schedule_said payload = do
  connector ← optional (whole_from_zero payload ConnectorId)
  start ← required (instant payload ScheduleStart)
  fields ← required (object payload ChargingSchedule)
  schedule ← schedule_of fields
  Ok (Schedule start schedule.duration schedule.unit (map composite_period schedule.periods))

-- The reply accepts; without a readable schedule it is unread.
abbrev pub or_unread : Result Said CallFault → Said
or_unread (Ok said) = said
or_unread (Err fault) = Unread

abbrev pub said_of_payload : Tree → Said
said_of_payload payload =
    if is_accepted (text payload Status).field then or_unread (schedule_said payload) else Refused

-- The schedule in a message: every message except a CALLRESULT refuses it.
abbrev pub said_of : Message → Said
said_of (call_result id payload) = said_of_payload payload
said_of _ = Refused
