-- Equality of units (OCPP 1.6, chapter 7, ChargingRateUnitType).
use Rattle.std.specs.Prelude.{Bool, true, false}
use Rattle.profile.specs.declared.unit.Unit.{Unit}
use Rattle.profile.specs.declared.unit.Unit.TheVariants.{A, W}

abbrev pub unit_eq : Unit → Unit → Bool
unit_eq A A = true
unit_eq A W = false
unit_eq W A = false
unit_eq W W = true
