-- The names of OCPP's enumerations in written payloads (OCPP 1.6, chapter 7). The tables of names
-- in `profile` read them.
use Rattle.std.specs.Prelude.{ℕ, List, Option, Some, None, codes}
use Rattle.profile.specs.declared.kind.Kind.{Kind}
use Rattle.profile.specs.declared.kind.Kind.TheVariants.{Absolute, Recurring, Relative}
use Rattle.profile.specs.declared.kind.Recurrency.{Recurrency}
use Rattle.profile.specs.declared.kind.Recurrency.TheVariants.{Daily, Weekly}
use Rattle.profile.specs.declared.purpose.Purpose.{Purpose}
use Rattle.profile.specs.declared.purpose.Purpose.TheVariants.{ChargePointMaxProfile, TxDefaultProfile, TxProfile}
use Rattle.profile.specs.declared.unit.Unit.{Unit}
use Rattle.profile.specs.declared.unit.Unit.TheVariants.{A, W}

-- ChargingProfilePurposeType
abbrev pub purpose_name : Purpose → List ℕ
purpose_name ChargePointMaxProfile = codes "ChargePointMaxProfile"
purpose_name TxDefaultProfile = codes "TxDefaultProfile"
purpose_name TxProfile = codes "TxProfile"

-- ChargingProfileKindType
abbrev pub kind_name : Kind → List ℕ
kind_name Absolute = codes "Absolute"
kind_name (Recurring recurrency) = codes "Recurring"
kind_name Relative = codes "Relative"

-- only a Recurring profile has one
abbrev pub recurrency_of : Kind → Option Recurrency
recurrency_of Absolute = None
recurrency_of (Recurring recurrency) = Some recurrency
recurrency_of Relative = None

-- RecurrencyKindType
abbrev pub recurrency_name : Recurrency → List ℕ
recurrency_name Daily = codes "Daily"
recurrency_name Weekly = codes "Weekly"

-- ChargingRateUnitType
abbrev pub unit_text : Unit → List ℕ
unit_text A = codes "A"
unit_text W = codes "W"
