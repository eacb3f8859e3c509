-- Tests of a profile's purpose, and the transactionId that each purpose keeps.
use Rattle.std.specs.Prelude.{ℤ, Bool, true, false, Option, None}
use Rattle.profile.specs.declared.purpose.Purpose.{Purpose}
use Rattle.profile.specs.declared.purpose.Purpose.TheVariants.{ChargePointMaxProfile, TxDefaultProfile, TxProfile}

abbrev pub is_charge_point_max : Purpose → Bool
is_charge_point_max ChargePointMaxProfile = true
is_charge_point_max TxDefaultProfile = false
is_charge_point_max TxProfile = false

abbrev pub is_tx_default : Purpose → Bool
is_tx_default ChargePointMaxProfile = false
is_tx_default TxDefaultProfile = true
is_tx_default TxProfile = false

abbrev pub is_tx : Purpose → Bool
is_tx ChargePointMaxProfile = false
is_tx TxDefaultProfile = false
is_tx TxProfile = true

-- transactionId, which only a TxProfile has (OCPP 1.6, chapter 7, ChargingProfile)
abbrev pub transaction_of : Purpose → Option ℤ → Option ℤ
transaction_of ChargePointMaxProfile transaction = None
transaction_of TxDefaultProfile transaction = None
transaction_of TxProfile transaction = transaction
