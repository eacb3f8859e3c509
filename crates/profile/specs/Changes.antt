-- The effect of an install and of a clear on the rows of a charge point: one filter, and at most
-- one row added.
use Rattle.std.specs.Prelude.{ℕ, ◌==◌, Bool, true, not, ◌&&◌, ◌||◌, List, [], ◌∷◌, ◌++◌, filter, Option, Some, None}
use Rattle.std.specs.Ordering.{int_eq}
use Rattle.profile.specs.declared.purpose.Purpose.{Purpose}
use Rattle.profile.specs.declared.purpose.Purpose.TheVariants.{ChargePointMaxProfile, TxDefaultProfile, TxProfile}
use Rattle.profile.specs.declared.criteria.Criteria.{Criteria}
use Rattle.profile.specs.declared.row.Row.{Row}
use Rattle.profile.specs.Purpose.{is_charge_point_max, is_tx_default, is_tx}

abbrev pub is_purpose : Purpose → Purpose → Bool
is_purpose ChargePointMaxProfile purpose = is_charge_point_max purpose
is_purpose TxDefaultProfile purpose = is_tx_default purpose
is_purpose TxProfile purpose = is_tx purpose

-- SetChargingProfile (OCPP 1.6, 5.16): a new profile replaces those with its chargingProfileId, and
-- those with its purpose and stack level at its connector. The connector is this system's choice:
-- the standard doesn't say whether profiles of other connectors are replaced too.
abbrev pub has_id_of : Row → Row → Bool
has_id_of new row = int_eq row.profile.id new.profile.id

abbrev pub has_key_of : Row → Row → Bool
has_key_of new row =
    (row.connector == new.connector)
    && is_purpose new.profile.purpose row.profile.purpose
    && (row.profile.stack_level == new.profile.stack_level)

abbrev pub is_replaced_by : Row → Row → Bool
is_replaced_by new row = has_id_of new row || has_key_of new row

-- the rows that a new one doesn't replace
abbrev pub rows_beside : List Row → Row → List Row
rows_beside rows new = filter (λ row. not (is_replaced_by new row)) rows

-- the rows after an install: those that remain, and the new one last
abbrev pub installed : List Row → Row → List Row
installed rows new = rows_beside rows new ++ new ∷ []

-- ClearChargingProfile (OCPP 1.6, 5.5): a profile is cleared if it matches each field that is
-- given, and so each profile if none is given. A connectorId of 0 means the profiles at connector 0
-- only.
abbrev pub is_met : {X : Type 0} → (X → Bool) → Option X → Bool
is_met test None = true
is_met test (Some x) = test x

abbrev pub matches : Criteria → Row → Bool
matches criteria row =
    is_met (λ id. int_eq row.profile.id id) criteria.id
    && is_met (λ connector. row.connector == connector) criteria.connector
    && is_met (λ purpose. is_purpose purpose row.profile.purpose) criteria.purpose
    && is_met (λ level. row.profile.stack_level == level) criteria.stack_level

-- the rows after a clear: those that fail a given criterion
abbrev pub cleared : List Row → Criteria → List Row
cleared rows criteria = filter (λ row. not (matches criteria row)) rows

-- the rows after the end of the transaction at a connector (OCPP 1.6, 3.13: a TxProfile is for one
-- transaction)
abbrev pub is_tx_profile_at : ℕ → Row → Bool
is_tx_profile_at connector row = is_tx row.profile.purpose && (row.connector == connector)

abbrev pub without_transaction_profiles : List Row → ℕ → List Row
without_transaction_profiles rows connector = filter (λ row. not (is_tx_profile_at connector row)) rows
