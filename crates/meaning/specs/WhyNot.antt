-- The reason why a profile of a point doesn't prevail for a connector at an instant (OCPP 1.6,
-- 3.13).
use Rattle.std.specs.Prelude.{◌≡◌, ℕ, ◌==◌, nat_lt, Bool, false, not, ◌&&◌, ◌||◌, List, Option, Some, None, is_some, if◌then◌else◌}
use Rattle.profile.specs.declared.purpose.Purpose.{Purpose}
use Rattle.profile.specs.declared.purpose.Purpose.TheVariants.{ChargePointMaxProfile, TxDefaultProfile, TxProfile}
use Rattle.profile.specs.declared.row.Row.{Row}
use Rattle.profile.specs.Candidates.{is_replaced_at}
use Rattle.profile.specs.ChargingProfile.{offset, is_before, is_from}
use Rattle.profile.specs.Periods.{limit_in}
use Rattle.profile.specs.Purpose.{is_tx, is_tx_default}
use Rattle.profile.specs.Row.{base}
use Rattle.meaning.specs.declared.cause.WhyNot.{WhyNot}
use Rattle.meaning.specs.declared.cause.WhyNot.TheVariants.{OtherConnector, NoTransaction, Hidden, NotYetValid, NoLongerValid, BeforeAnchor, PastDuration, BeforeFirstPeriod, BelowHigherLevel, BehindTxProfile}
use Rattle.meaning.specs.View.{PointState, active_since}
use Rattle.meaning.specs.Cause.{RowLimit, with_limit, level_of, prevailing_row, counts_for, IsRowOf}

abbrev pub first_of : Option WhyNot → Option WhyNot → Option WhyNot
first_of None later = later
first_of (Some why) later = Some why

abbrev pub where_so : WhyNot → Bool → Option WhyNot
where_so why so = if so then Some why else None

-- a TxDefaultProfile at connector 0 applies to every connector, and any other profile only to its
-- own
abbrev pub is_elsewhere : Purpose → ℕ → ℕ → Bool
is_elsewhere ChargePointMaxProfile connector at = not (at == 0)
is_elsewhere TxDefaultProfile connector at = not ((at == connector) || (at == 0))
is_elsewhere TxProfile connector at = not (at == connector)

abbrev pub lacks_transaction : PointState → ℕ → Row → Bool
lacks_transaction state connector row =
    is_tx row.profile.purpose && not (is_some (active_since state connector))

-- a TxDefaultProfile at connector 0 is hidden for a connector with one of its level (this system's
-- choice)
abbrev pub is_hidden : PointState → ℕ → Row → Bool
is_hidden state connector row =
    is_tx_default row.profile.purpose && not (row.connector == connector)
    && is_replaced_at state.rows connector row.profile.stack_level

-- the reason why a row doesn't count for a connector
abbrev pub why_not_counted : PointState → ℕ → Row → Option WhyNot
why_not_counted state connector row =
    first_of (where_so OtherConnector (is_elsewhere row.profile.purpose connector row.connector))
    (first_of (where_so NoTransaction (lacks_transaction state connector row))
    (where_so Hidden (is_hidden state connector row)))

-- the reason why a row has no limit at an offset in its schedule; before its anchor there is no
-- offset
abbrev pub why_no_limit_in : Row → Option ℕ → Option WhyNot
why_no_limit_in row None = Some BeforeAnchor
why_no_limit_in row (Some offset) =
    first_of (where_so PastDuration (not (is_before offset row.profile.schedule.duration)))
    (where_so BeforeFirstPeriod (not (is_some (limit_in row.profile.schedule.periods offset))))

-- the reason why a row has no limit for a connector at an instant
abbrev pub why_no_limit : PointState → ℕ → ℕ → ℕ → Row → Option WhyNot
why_no_limit state connector asked instant row =
    first_of (where_so NotYetValid (not (is_from row.profile.valid_from instant)))
    (first_of (where_so NoLongerValid (not (is_before instant row.profile.valid_to)))
    (why_no_limit_in row
    (offset row.profile (base row (active_since state connector) asked) instant)))

abbrev pub is_above : ℕ → Option RowLimit → Bool
is_above level None = false
is_above level (Some best) = nat_lt level (level_of best)

-- the reason why a row with a limit doesn't prevail
abbrev pub why_behind : PointState → ℕ → ℕ → ℕ → Row → Option WhyNot
why_behind state connector asked instant row =
    first_of
    (where_so BelowHigherLevel
    (is_above row.profile.stack_level
    (prevailing_row row.profile.purpose state connector asked instant)))
    (where_so BehindTxProfile
    (is_tx_default row.profile.purpose
    && is_some (prevailing_row TxProfile state connector asked instant)))

abbrev pub why_not_for : PointState → ℕ → ℕ → ℕ → Row → Option WhyNot
why_not_for state connector asked instant row =
    first_of (why_not_counted state connector row)
    (first_of (why_no_limit state connector asked instant row)
    (why_behind state connector asked instant row))

-- The reason why a row doesn't prevail for a connector at an instant, in a schedule requested from
-- `asked` on: the first in the order of `WhyNot`. A ChargePointMaxProfile prevails for the whole
-- point. Connector 0 is taken as one that never charges: the reasons of its sum are those of each
-- active connector.
abbrev pub why_not : PointState → ℕ → ℕ → ℕ → Row → Option WhyNot
why_not state connector asked instant row =
    why_not_for state (counts_for row.profile.purpose connector) asked instant row

-- A row prevails for a connector at an instant if it does so among the rows of its purpose, and,
-- for a TxDefaultProfile, if no TxProfile does.
pub record Prevails (state : PointState) (connector asked instant : ℕ) (row : Row) : Type 0 where
  pub limit : ℕ
  pub of_purpose :
      prevailing_row
      row.profile.purpose state (counts_for row.profile.purpose connector) asked instant
      ≡ Some (with_limit row limit)
  pub no_transaction :
      row.profile.purpose ≡ TxDefaultProfile
      → prevailing_row TxProfile state connector asked instant ≡ None

-- no two rows have the same connector, purpose and stack level, which holds of every book
pub record HaveOwnKeys (rows : List Row) : Type 0 where
  pub same :
      (one other : Row) → IsRowOf rows one → IsRowOf rows other
      → one.connector ≡ other.connector → one.profile.purpose ≡ other.profile.purpose
      → one.profile.stack_level ≡ other.profile.stack_level → one ≡ other
