-- The base: the instant from which the profile of a row counts its seconds.
use Rattle.std.specs.Prelude.{ℕ, Option, unwrap_or}
use Rattle.profile.specs.declared.purpose.Purpose.{Purpose}
use Rattle.profile.specs.declared.purpose.Purpose.TheVariants.{ChargePointMaxProfile, TxDefaultProfile, TxProfile}
use Rattle.profile.specs.declared.row.Row.{Row}

-- The base of a profile without a start of its own (OCPP 1.6, 5.16; the choices are this system's).
-- A ChargePointMaxProfile counts from its install. The others count from the start of the active
-- transaction at the requested connector, or without one from the start of the requested schedule.
abbrev pub base_of : Purpose → ℕ → Option ℕ → ℕ → ℕ
base_of ChargePointMaxProfile installed started asked = installed
base_of TxDefaultProfile installed started asked = unwrap_or started asked
base_of TxProfile installed started asked = unwrap_or started asked

abbrev pub base : Row → Option ℕ → ℕ → ℕ
base row started asked = base_of row.profile.purpose row.moment started asked
