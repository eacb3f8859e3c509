-- The rows of a point that apply to a connector.
use Rattle.std.specs.Prelude.{ℕ, ◌==◌, Bool, not, ◌&&◌, ◌||◌, List, filter}
use Rattle.std.specs.List.{list_any}
use Rattle.profile.specs.declared.purpose.Purpose.{Purpose}
use Rattle.profile.specs.declared.purpose.Purpose.TheVariants.{ChargePointMaxProfile, TxDefaultProfile, TxProfile}
use Rattle.profile.specs.declared.row.Row.{Row}
use Rattle.profile.specs.Purpose.{is_charge_point_max, is_tx_default, is_tx}

-- A TxDefaultProfile at a connector replaces the one at connector 0 (OCPP 1.6, 3.13). It replaces
-- the one of the same stack level, and also at seconds that it doesn't cover (both are this
-- system's choice).
abbrev pub is_replaced_at : List Row → ℕ → ℕ → Bool
is_replaced_at rows connector level =
    list_any
    (λ (row : Row). is_tx_default row.profile.purpose
    && (row.connector == connector) && (row.profile.stack_level == level))
    rows

-- whether a row of a purpose applies to a connector (OCPP 1.6, 3.13): ChargePointMaxProfile rows
-- are at connector 0 and apply to all, TxDefaultProfile rows at 0 to the connectors without one of
-- their level
abbrev pub is_candidate : Purpose → List Row → ℕ → Row → Bool
is_candidate ChargePointMaxProfile rows connector row =
    is_charge_point_max row.profile.purpose && (row.connector == 0)
is_candidate TxDefaultProfile rows connector row =
    is_tx_default row.profile.purpose
    && ((row.connector == connector)
    || ((row.connector == 0) && not (is_replaced_at rows connector row.profile.stack_level)))
is_candidate TxProfile rows connector row = is_tx row.profile.purpose && (row.connector == connector)

-- the rows of a purpose that apply to a connector
abbrev pub candidates : Purpose → List Row → ℕ → List Row
candidates purpose rows connector = filter (is_candidate purpose rows connector) rows
