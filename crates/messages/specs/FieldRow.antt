-- Tables of fields with the kinds of their values, in the order of the checks: those of the objects
-- inside payloads (OCPP 1.6, chapter 7). `ActionKind` has those of payloads.
use Rattle.std.specs.Prelude.{List, [], ◌∷◌}
use Rattle.messages.specs.declared.field_name.FieldName.{FieldName}
use Rattle.messages.specs.declared.field_name.FieldName.TheVariants.{ChargingProfileId, ChargingProfileKind, ChargingProfilePurpose, ChargingRateUnit, ChargingSchedule, ChargingSchedulePeriod, Duration, Limit, MinChargingRate, NumberPhases, RecurrencyKind, StackLevel, StartPeriod, StartSchedule, TransactionId, ValidFrom, ValidTo}
use Rattle.messages.specs.declared.field_row.FieldKind.{FieldKind}
use Rattle.messages.specs.declared.field_row.FieldKind.TheVariants.{Whole, WholeFromZero, Tenths, Time, PurposeName, KindName, RecurrencyName, UnitName, Object, Objects}
use Rattle.messages.specs.declared.field_row.ObjectKind.{ObjectKind}
use Rattle.messages.specs.declared.field_row.ObjectKind.TheVariants.{Profile, Schedule, Period}
use Rattle.messages.specs.declared.field_row.FieldRow.{FieldRow}
use Rattle.messages.specs.declared.field_row.FieldRow.TheVariants.{Required, Optional}

abbrev pub name_of_row : FieldRow → FieldName
name_of_row (Required name kind) = name
name_of_row (Optional name kind) = name

abbrev pub kind_of_row : FieldRow → FieldKind
kind_of_row (Required name kind) = kind
kind_of_row (Optional name kind) = kind

-- the fields of an object that are read
abbrev pub fields_in : ObjectKind → List FieldRow
fields_in Profile =
    Required ChargingProfileId Whole
    ∷ Optional TransactionId Whole
    ∷ Required StackLevel WholeFromZero
    ∷ Required ChargingProfilePurpose PurposeName
    ∷ Required ChargingProfileKind KindName
    ∷ Optional RecurrencyKind RecurrencyName
    ∷ Optional ValidFrom Time
    ∷ Optional ValidTo Time
    ∷ Required ChargingSchedule (Object Schedule)
    ∷ []
fields_in Schedule =
    Optional Duration WholeFromZero
    ∷ Optional StartSchedule Time
    ∷ Required ChargingRateUnit UnitName
    ∷ Required ChargingSchedulePeriod (Objects Period)
    ∷ Optional MinChargingRate Tenths
    ∷ []
fields_in Period =
    Required StartPeriod WholeFromZero
    ∷ Required Limit Tenths
    ∷ Optional NumberPhases WholeFromZero
    ∷ []
