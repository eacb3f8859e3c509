-- The limit of a connector at an instant (OCPP 1.6, 3.13).
use Rattle.std.specs.Prelude.{ℕ, ◌+◌, ◌==◌, Bool, true, false, min, List, length, filter, sum_by, Option, Some, None, is_some}
use Rattle.std.specs.List.{range_with_len}
use Rattle.profile.specs.declared.purpose.Purpose.TheVariants.{ChargePointMaxProfile, TxDefaultProfile, TxProfile}
use Rattle.meaning.specs.View.{PointState, ceiling_of, active_since}
use Rattle.meaning.specs.Prevailing.{prevailing}

abbrev pub or_else : Option ℕ → Option ℕ → Option ℕ
or_else None other = other
or_else (Some limit) other = Some limit

abbrev pub at_most : ℕ → Option ℕ → ℕ
at_most limit None = limit
at_most limit (Some other) = min limit other

-- the limit of the prevailing TxProfile, otherwise of the prevailing TxDefaultProfile (OCPP 1.6,
-- 3.13)
abbrev pub transaction_limit : PointState → ℕ → ℕ → ℕ → Option ℕ
transaction_limit state connector asked instant =
    or_else
    (prevailing TxProfile state connector asked instant)
    (prevailing TxDefaultProfile state connector asked instant)

-- the least of the connector's ceiling and its transaction limit
abbrev pub own_limit : PointState → ℕ → ℕ → ℕ → ℕ
own_limit state connector asked instant =
    at_most (ceiling_of state connector) (transaction_limit state connector asked instant)

-- the least of the point's ceiling and the prevailing ChargePointMaxProfile
abbrev pub point_limit : PointState → ℕ → ℕ → ℕ
point_limit state asked instant =
    at_most state.ceiling (prevailing ChargePointMaxProfile state 0 asked instant)

-- the connectors with an active transaction
abbrev pub active_connectors : PointState → List ℕ
active_connectors state =
    filter
    (λ connector. is_some (active_since state connector))
    (range_with_len 1 (length state.ceilings))

-- the power or current that the active connectors may draw together, a whole number without bound
abbrev pub shared_limit : PointState → ℕ → ℕ → ℕ
shared_limit state asked instant =
    sum_by (λ connector. own_limit state connector asked instant) (active_connectors state)

-- Connector 0 is the whole point, and its limit bounds the total draw of the active connectors
-- (this system's choice); any other connector has its own limit within the point's (OCPP 1.6,
-- 3.13).
abbrev pub limit_by : Bool → PointState → ℕ → ℕ → ℕ → ℕ
limit_by true state connector asked instant =
    min (point_limit state asked instant) (shared_limit state asked instant)
limit_by false state connector asked instant =
    min (point_limit state asked instant) (own_limit state connector asked instant)

-- the limit of a connector at an instant, in tenths, in a schedule requested from `asked` on
abbrev pub limit : PointState → ℕ → ℕ → ℕ → ℕ
limit state connector asked instant = limit_by (connector == 0) state connector asked instant

-- the limits of a request for a connector from a start on, by seconds after the start
abbrev pub limit_asked : PointState → ℕ → ℕ → ℕ → ℕ
limit_asked state connector start second = limit state connector start (start + second)
