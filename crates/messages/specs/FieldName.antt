-- The names of fields, as they are read from payloads and as descriptions of faults write them
-- (OCPP 1.6, chapters 6 and 7). There are two tables, so that reading and writing share no
-- definition.
use Rattle.std.specs.Prelude.{ℕ, List, codes}
use Rattle.messages.specs.declared.field_name.FieldName.{FieldName}
use Rattle.messages.specs.declared.field_name.FieldName.TheVariants.{ChargingProfile, ChargingProfileId, ChargingProfileKind, ChargingProfilePurpose, ChargingRateUnit, ChargingSchedule, ChargingSchedulePeriod, ConnectorId, CsChargingProfiles, Duration, Id, IdTag, Limit, MeterStart, MinChargingRate, NumberPhases, RecurrencyKind, ScheduleStart, StackLevel, StartPeriod, StartSchedule, Status, Timestamp, TransactionId, ValidFrom, ValidTo}

-- The name under which a field is read from a payload.
abbrev pub field_name : FieldName → List ℕ
field_name ChargingProfile = codes "chargingProfile"
field_name ChargingProfileId = codes "chargingProfileId"
field_name ChargingProfileKind = codes "chargingProfileKind"
field_name ChargingProfilePurpose = codes "chargingProfilePurpose"
field_name ChargingRateUnit = codes "chargingRateUnit"
field_name ChargingSchedule = codes "chargingSchedule"
field_name ChargingSchedulePeriod = codes "chargingSchedulePeriod"
field_name ConnectorId = codes "connectorId"
field_name CsChargingProfiles = codes "csChargingProfiles"
field_name Duration = codes "duration"
field_name Id = codes "id"
field_name IdTag = codes "idTag"
field_name Limit = codes "limit"
field_name MeterStart = codes "meterStart"
field_name MinChargingRate = codes "minChargingRate"
field_name NumberPhases = codes "numberPhases"
field_name RecurrencyKind = codes "recurrencyKind"
field_name ScheduleStart = codes "scheduleStart"
field_name StackLevel = codes "stackLevel"
field_name StartPeriod = codes "startPeriod"
field_name StartSchedule = codes "startSchedule"
field_name Status = codes "status"
field_name Timestamp = codes "timestamp"
field_name TransactionId = codes "transactionId"
field_name ValidFrom = codes "validFrom"
field_name ValidTo = codes "validTo"

-- The description of a fault of a field.
abbrev pub fault_field_text : FieldName → List ℕ
fault_field_text ChargingProfile = codes "chargingProfile"
fault_field_text ChargingProfileId = codes "chargingProfileId"
fault_field_text ChargingProfileKind = codes "chargingProfileKind"
fault_field_text ChargingProfilePurpose = codes "chargingProfilePurpose"
fault_field_text ChargingRateUnit = codes "chargingRateUnit"
fault_field_text ChargingSchedule = codes "chargingSchedule"
fault_field_text ChargingSchedulePeriod = codes "chargingSchedulePeriod"
fault_field_text ConnectorId = codes "connectorId"
fault_field_text CsChargingProfiles = codes "csChargingProfiles"
fault_field_text Duration = codes "duration"
fault_field_text Id = codes "id"
fault_field_text IdTag = codes "idTag"
fault_field_text Limit = codes "limit"
fault_field_text MeterStart = codes "meterStart"
fault_field_text MinChargingRate = codes "minChargingRate"
fault_field_text NumberPhases = codes "numberPhases"
fault_field_text RecurrencyKind = codes "recurrencyKind"
fault_field_text ScheduleStart = codes "scheduleStart"
fault_field_text StackLevel = codes "stackLevel"
fault_field_text StartPeriod = codes "startPeriod"
fault_field_text StartSchedule = codes "startSchedule"
fault_field_text Status = codes "status"
fault_field_text Timestamp = codes "timestamp"
fault_field_text TransactionId = codes "transactionId"
fault_field_text ValidFrom = codes "validFrom"
fault_field_text ValidTo = codes "validTo"
