-- The cause of the limit of a connector at an instant (OCPP 1.6, 3.13).
use Rattle.std.specs.Prelude.{◌≡◌, ℕ, ◌+◌, ◌<◌, ◌==◌, nat_lt, Bool, true, false, List, [], ◌∷◌, ◌++◌, map, Option, Some, None, option_map, if◌then◌else◌}
use Rattle.std.specs.List.{filter_map}
use Rattle.profile.specs.declared.purpose.Purpose.{Purpose}
use Rattle.profile.specs.declared.purpose.Purpose.TheVariants.{ChargePointMaxProfile, TxDefaultProfile, TxProfile}
use Rattle.profile.specs.declared.row.Row.{Row}
use Rattle.profile.specs.Greatest.{greatest}
use Rattle.profile.specs.ChargingProfile.{rate}
use Rattle.profile.specs.Row.{base}
use Rattle.meaning.specs.declared.cause.PrevailingProfile.{PrevailingProfile}
use Rattle.meaning.specs.declared.cause.Cause.{Cause}
use Rattle.meaning.specs.declared.cause.Cause.TheVariants.{Profile, ConnectorCeiling, PointCeiling, Sum}
use Rattle.meaning.specs.declared.cause.Share.{Share}
use Rattle.meaning.specs.declared.cause.Reason.{Reason}
use Rattle.meaning.specs.View.{PointState, active_since, ceiling_of}
use Rattle.meaning.specs.Prevailing.{counted}
use Rattle.meaning.specs.Limit.{active_connectors, shared_limit}

-- a row, and its limit at an instant
pub record RowLimit : Type 0 where
  pub row : Row
  pub limit : ℕ

abbrev pub with_limit : Row → ℕ → RowLimit
with_limit row limit = record { row = row; limit = limit }

-- a row with its limit for a connector at an instant, if it has one
abbrev pub row_limit : PointState → ℕ → ℕ → ℕ → Row → Option RowLimit
row_limit state connector asked instant row =
    option_map
    (with_limit row)
    (rate row.profile (base row (active_since state connector) asked) instant)

abbrev pub level_of : RowLimit → ℕ
level_of best = best.row.profile.stack_level

-- Of the profiles of one purpose that have a limit at the instant, the row with the highest stack
-- level prevails (OCPP 1.6, 3.13). Its limit is `prevailing`, by the law `reasons`.
abbrev pub prevailing_row : Purpose → PointState → ℕ → ℕ → ℕ → Option RowLimit
prevailing_row purpose state connector asked instant =
    greatest
    level_of
    (filter_map (row_limit state connector asked instant) (counted purpose state connector))

abbrev pub row_or_else : Option RowLimit → Option RowLimit → Option RowLimit
row_or_else None other = other
row_or_else (Some first) other = Some first

-- the prevailing TxProfile, otherwise the prevailing TxDefaultProfile (OCPP 1.6, 3.13)
abbrev pub transaction_row : PointState → ℕ → ℕ → ℕ → Option RowLimit
transaction_row state connector asked instant =
    row_or_else
    (prevailing_row TxProfile state connector asked instant)
    (prevailing_row TxDefaultProfile state connector asked instant)

-- the identifying fields of a profile
abbrev pub profile_of : Row → PrevailingProfile
profile_of row = record {
  id = row.profile.id;
  purpose = row.profile.purpose;
  stack_level = row.profile.stack_level;
  connector = row.connector;
}

-- a limit and its cause
pub record Bound : Type 0 where
  pub limit : ℕ
  pub cause : Cause

abbrev pub bound_of : Cause → ℕ → Bound
bound_of cause limit = record { limit = limit; cause = cause }

-- the lesser of two bounds, or the first of equals
abbrev pub lesser : Bound → Bound → Bound
lesser first second = if nat_lt second.limit first.limit then second else first

-- the lesser of the row that prevails, if any, and a bound
abbrev pub lesser_of : Option RowLimit → Bound → Bound
lesser_of None other = other
lesser_of (Some best) other = lesser (bound_of (Profile (profile_of best.row)) best.limit) other

-- the bound of a connector's own limit: its transaction's profile or its ceiling
abbrev pub own_bound : PointState → ℕ → ℕ → ℕ → Bound
own_bound state connector asked instant =
    lesser_of
    (transaction_row state connector asked instant)
    (bound_of ConnectorCeiling (ceiling_of state connector))

-- that bound within the point's: the ChargePointMaxProfile comes first, the point's ceiling last
abbrev pub below_point : PointState → ℕ → ℕ → Bound → Bound
below_point state asked instant bound =
    lesser_of
    (prevailing_row ChargePointMaxProfile state 0 asked instant)
    (lesser bound (bound_of PointCeiling state.ceiling))

abbrev pub bound_by : Bool → PointState → ℕ → ℕ → ℕ → Bound
bound_by true state connector asked instant =
    below_point state asked instant (bound_of Sum (shared_limit state asked instant))
bound_by false state connector asked instant =
    below_point state asked instant (own_bound state connector asked instant)

-- The bound of a connector: the one with the least limit, and of equals the first in this order:
-- the prevailing ChargePointMaxProfile; the prevailing TxProfile, otherwise TxDefaultProfile, and
-- the connector's ceiling, or at connector 0 the sum; the point's ceiling (the order is this
-- system's choice).
abbrev pub bound : PointState → ℕ → ℕ → ℕ → Bound
bound state connector asked instant = bound_by (connector == 0) state connector asked instant

-- the share of an active connector in the sum
abbrev pub share : PointState → ℕ → ℕ → ℕ → Share
share state asked instant connector = record {
  connector = connector;
  limit = (own_bound state connector asked instant).limit;
  cause = (own_bound state connector asked instant).cause;
}

-- the shares of the active connectors, by rising connector, if the cause is the sum
abbrev pub shares_by : Cause → PointState → ℕ → ℕ → List Share
shares_by Sum state asked instant = map (share state asked instant) (active_connectors state)
shares_by other state asked instant = []

abbrev pub reason_by : PointState → ℕ → ℕ → Bound → Reason
reason_by state asked instant bound = record {
  limit = bound.limit;
  cause = bound.cause;
  shares = shares_by bound.cause state asked instant;
}

-- The limit of a connector at an instant with its cause, in a schedule requested from `asked` on.
abbrev pub reason : PointState → ℕ → ℕ → ℕ → Reason
reason state connector asked instant =
    reason_by state asked instant (bound state connector asked instant)

-- the reasons of a request for a connector from a start on, by seconds after the start
abbrev pub reason_asked : PointState → ℕ → ℕ → ℕ → Reason
reason_asked state connector start second = reason state connector start (start + second)

-- the connector for which a purpose counts: a ChargePointMaxProfile counts for the whole point
abbrev pub counts_for : Purpose → ℕ → ℕ
counts_for ChargePointMaxProfile connector = 0
counts_for TxDefaultProfile connector = connector
counts_for TxProfile connector = connector

-- a row is in a list
pub record IsRowOf (rows : List Row) (row : Row) : Type 0 where
  pub before : List Row
  pub after : List Row
  pub is : rows ≡ before ++ row ∷ after

-- a profile is that of a row of the point, which prevails and has exactly this limit
pub record IsPrevailing (state : PointState) (connector asked instant limit : ℕ)
    (profile : PrevailingProfile) : Type 0 where
  pub row : Row
  pub stands : IsRowOf state.rows row
  pub of_row : profile ≡ profile_of row
  pub prevails :
      prevailing_row profile.purpose state (counts_for profile.purpose connector) asked instant
      ≡ Some (with_limit row limit)

-- The statement that a cause makes of a limit.
abbrev pub IsSetBy : PointState → ℕ → ℕ → ℕ → ℕ → Cause → Type 0
IsSetBy state connector asked instant limit (Profile profile) =
    IsPrevailing state connector asked instant limit profile
IsSetBy state connector asked instant limit ConnectorCeiling =
    (0 < connector) × (limit ≡ ceiling_of state connector)
IsSetBy state connector asked instant limit PointCeiling = limit ≡ state.ceiling
IsSetBy state connector asked instant limit Sum =
    (connector ≡ 0) × (limit ≡ shared_limit state asked instant)
