-- The fields of a charging profile, in the order of the checks (OCPP 1.6, chapter 7).
use Rattle.std.specs.Prelude.{List, [], ◌∷◌, Option, Some, None, Result, Ok, Err}
use Rattle.ocpp_scalars.specs.ResultSteps.{◌>>=◌}
use Rattle.ocppj_frame.specs.Tree.{Tree}
use Rattle.profile.specs.declared.period.Period.{Period}
use Rattle.profile.specs.declared.parts.ProfileParts.{ProfileParts}
use Rattle.profile.specs.declared.parts.ScheduleParts.{ScheduleParts}
use Rattle.messages.specs.declared.field_name.FieldName.TheVariants.{ChargingProfileId, ChargingProfileKind, ChargingProfilePurpose, ChargingRateUnit, ChargingSchedule, ChargingSchedulePeriod, Duration, Limit, MinChargingRate, NumberPhases, RecurrencyKind, StackLevel, StartPeriod, StartSchedule, TransactionId, ValidFrom, ValidTo}
use Rattle.messages.specs.declared.call_fault.CallFault.{CallFault}
use Rattle.messages.specs.declared.call_fault.CallFault.TheVariants.{OccurenceConstraintViolation}
use Rattle.profile.specs.Names.{purpose_named, kind_named, recurrency_named, unit_named}
use Rattle.messages.specs.Fields.{required, optional, whole, whole_from_zero, tenths, instant, one_name_of, list, object, as_object}

-- ChargingSchedulePeriod
unfoldable pub period_of : Tree → Result Period CallFault
period_of entry = do
  fields ← as_object ChargingSchedulePeriod entry
  start ← required (whole_from_zero fields StartPeriod)
  limit ← required (tenths fields Limit)
  number_phases ← optional (whole_from_zero fields NumberPhases)
  Ok (record { start = start; limit = limit; number_phases = number_phases })

-- The periods of a list, in order.
abbrev pub each_period_of : List Tree → Result (List Period) CallFault
each_period_of [] = Ok []
each_period_of (entry ∷ entries) = do
  period ← period_of entry
  periods ← each_period_of entries
  Ok (period ∷ periods)

-- An empty list that is required counts as absent.
abbrev pub unless_empty : List Period → Result (List Period) CallFault
unless_empty [] = Err (OccurenceConstraintViolation ChargingSchedulePeriod)
unless_empty (period ∷ periods) = Ok (period ∷ periods)

abbrev pub periods_of : List Tree → Result (List Period) CallFault
periods_of entries = do
  periods ← each_period_of entries
  unless_empty periods

-- ChargingSchedule
unfoldable pub schedule_of : Tree → Result ScheduleParts CallFault
schedule_of fields = do
  duration ← optional (whole_from_zero fields Duration)
  start ← optional (instant fields StartSchedule)
  unit ← required (one_name_of unit_named fields ChargingRateUnit)
  entries ← required (list fields ChargingSchedulePeriod)
  periods ← periods_of entries
  min_charging_rate ← optional (tenths fields MinChargingRate)
  Ok (record {
    duration = duration;
    start = start;
    unit = unit;
    periods = periods;
    min_charging_rate = min_charging_rate;
  })

-- ChargingProfile
unfoldable pub profile_of : Tree → Result ProfileParts CallFault
profile_of fields = do
  id ← required (whole fields ChargingProfileId)
  transaction ← optional (whole fields TransactionId)
  stack_level ← required (whole_from_zero fields StackLevel)
  purpose ← required (one_name_of purpose_named fields ChargingProfilePurpose)
  kind ← required (one_name_of kind_named fields ChargingProfileKind)
  recurrency ← optional (one_name_of recurrency_named fields RecurrencyKind)
  valid_from ← optional (instant fields ValidFrom)
  valid_to ← optional (instant fields ValidTo)
  schedule_fields ← required (object fields ChargingSchedule)
  schedule ← schedule_of schedule_fields
  Ok (record {
    id = id;
    transaction = transaction;
    stack_level = stack_level;
    purpose = purpose;
    kind = kind;
    recurrency = recurrency;
    valid_from = valid_from;
    valid_to = valid_to;
    schedule = schedule;
  })

-- a profile that may be absent
abbrev pub optional_profile_of : Option Tree → Result (Option ProfileParts) CallFault
optional_profile_of None = Ok None
optional_profile_of (Some fields) = do
  profile ← profile_of fields
  Ok (Some profile)
