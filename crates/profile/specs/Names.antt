-- The names of the values of a profile's enumerated fields, each accepted exactly as written.
use Rattle.std.specs.Prelude.{ℕ, List, [], ◌∷◌, Option, Some, None, codes, if◌then◌else◌}
use Rattle.std.specs.Str.{bytes_eq}
use Rattle.profile.specs.declared.purpose.Purpose.{Purpose}
use Rattle.profile.specs.declared.purpose.Purpose.TheVariants.{ChargePointMaxProfile, TxDefaultProfile, TxProfile}
use Rattle.profile.specs.declared.kind.ProfileKind.{ProfileKind}
use Rattle.profile.specs.declared.kind.ProfileKind.TheVariants.{Absolute, Recurring, Relative}
use Rattle.profile.specs.declared.kind.Recurrency.{Recurrency}
use Rattle.profile.specs.declared.kind.Recurrency.TheVariants.{Daily, Weekly}
use Rattle.profile.specs.declared.unit.Unit.{Unit}
use Rattle.profile.specs.declared.unit.Unit.TheVariants.{A, W}

-- the value of a name in a table; none if the table lacks the name
abbrev pub named_in : {X : Type 0} → List (List ℕ × X) → List ℕ → Option X
named_in [] text = None
named_in (row ∷ rows) text = if bytes_eq text row.0 then Some row.1 else named_in rows text

-- OCPP 1.6, chapter 7, ChargingProfilePurposeType
abbrev pub purposes : List (List ℕ × Purpose)
purposes =
    (codes "ChargePointMaxProfile", ChargePointMaxProfile)
    ∷ (codes "TxDefaultProfile", TxDefaultProfile)
    ∷ (codes "TxProfile", TxProfile)
    ∷ []

-- OCPP 1.6, chapter 7, ChargingProfileKindType
abbrev pub kinds : List (List ℕ × ProfileKind)
kinds = (codes "Absolute", Absolute) ∷ (codes "Recurring", Recurring) ∷ (codes "Relative", Relative) ∷ []

-- OCPP 1.6, chapter 7, RecurrencyKindType
abbrev pub recurrencies : List (List ℕ × Recurrency)
recurrencies = (codes "Daily", Daily) ∷ (codes "Weekly", Weekly) ∷ []

-- OCPP 1.6, chapter 7, ChargingRateUnitType
abbrev pub units : List (List ℕ × Unit)
units = (codes "A", A) ∷ (codes "W", W) ∷ []

abbrev pub purpose_named : List ℕ → Option Purpose
purpose_named text = named_in purposes text

abbrev pub kind_named : List ℕ → Option ProfileKind
kind_named text = named_in kinds text

abbrev pub recurrency_named : List ℕ → Option Recurrency
recurrency_named text = named_in recurrencies text

abbrev pub unit_named : List ℕ → Option Unit
unit_named text = named_in units text
