-- The reasons why a profile never sets the limit in an explanation.
use Rattle.std.specs.Prelude.{◌≡◌, ◌≢◌, ◌⊎◌, ℕ, ◌+◌, ◌<◌, ◌≤◌, ◌^◌, ◌==◌, nat_lt, Bool, true, false, not, ◌&&◌, ◌||◌, Option, Some, None, is_some, slice_get, if◌then◌else◌}
use Rattle.profile.specs.declared.row.Row.{Row}
use Rattle.profile.specs.ChargingProfile.{offset, rate, is_before, is_from}
use Rattle.profile.specs.Periods.{limit_in}
use Rattle.profile.specs.Purpose.{is_charge_point_max, is_tx_default}
use Rattle.profile.specs.declared.purpose.Purpose.TheVariants.{TxProfile}
use Rattle.profile.specs.Row.{base}
use Rattle.meaning.specs.declared.ask.Ask.{Ask}
use Rattle.meaning.specs.declared.cause.WhyNot.{WhyNot}
use Rattle.meaning.specs.declared.cause.WhyNot.TheVariants.{OtherConnector, NoTransaction, Hidden, NotYetValid, NoLongerValid, BeforeAnchor, PastDuration, BeforeFirstPeriod, BelowHigherLevel, BehindTxProfile}
use Rattle.meaning.specs.View.{PointState, active_since}
use Rattle.meaning.specs.Cause.{profile_of, counts_for, prevailing_row}
use Rattle.meaning.specs.WhyNot.{why_not, is_elsewhere, lacks_transaction, is_hidden, is_above}
use Rattle.explain_pages.specs.declared.explained_request.NotCountedReason.{NotCountedReason}
use Rattle.explain_pages.specs.declared.explained_request.NotCountedReason.TheVariants.{NotPrevailing, NotLeast, NoActiveConnector, NoLimit, BehindOthers}
use Rattle.explain_pages.specs.declared.explained_request.NotCounted.{NotCounted}

-- ---- at one second

-- the limit of a row that counts for a connector at an instant, in a schedule requested from
-- `asked` on
abbrev pub limit_for : PointState → ℕ → ℕ → ℕ → Row → Option ℕ
limit_for state at asked instant row =
    rate row.profile (base row (active_since state at) asked) instant

-- the schedule is past its duration, or none of its periods has begun, at an offset if there is one
abbrev pub is_over_at : Row → Option ℕ → Bool
is_over_at row None = false
is_over_at row (Some offset) = not (is_before offset row.profile.schedule.duration)

abbrev pub is_ahead_at : Row → Option ℕ → Bool
is_ahead_at row None = false
is_ahead_at row (Some offset) = not (is_some (limit_in row.profile.schedule.periods offset))

-- whether a reason why a row doesn't prevail for a connector holds at an instant
abbrev pub holds_for : WhyNot → PointState → ℕ → ℕ → ℕ → Row → Bool
holds_for OtherConnector state at asked instant row =
    is_elsewhere row.profile.purpose at row.connector
holds_for NoTransaction state at asked instant row = lacks_transaction state at row
holds_for Hidden state at asked instant row = is_hidden state at row
holds_for NotYetValid state at asked instant row = not (is_from row.profile.valid_from instant)
holds_for NoLongerValid state at asked instant row = not (is_before instant row.profile.valid_to)
holds_for BeforeAnchor state at asked instant row =
    not (is_some (offset row.profile (base row (active_since state at) asked) instant))
holds_for PastDuration state at asked instant row =
    is_over_at row (offset row.profile (base row (active_since state at) asked) instant)
holds_for BeforeFirstPeriod state at asked instant row =
    is_ahead_at row (offset row.profile (base row (active_since state at) asked) instant)
holds_for BelowHigherLevel state at asked instant row =
    is_above row.profile.stack_level (prevailing_row row.profile.purpose state at asked instant)
holds_for BehindTxProfile state at asked instant row =
    is_tx_default row.profile.purpose && is_some (prevailing_row TxProfile state at asked instant)

-- The claim of a reason about a row for a connector at a second, in a schedule requested from
-- `asked` on. NotPrevailing: the row doesn't prevail, for this cause. NoLimit: it has no limit.
-- BehindOthers: it has no limit or doesn't prevail. NotLeast: it prevails. A ChargePointMaxProfile
-- prevails for the whole point.
abbrev pub SaysAt : NotCountedReason → PointState → ℕ → ℕ → ℕ → Row → Type 0
SaysAt (NotPrevailing why) state connector asked second row =
    holds_for why state (counts_for row.profile.purpose connector) asked second row ≡ true
SaysAt NoLimit state connector asked second row =
    limit_for state (counts_for row.profile.purpose connector) asked second row ≡ None
SaysAt BehindOthers state connector asked second row =
    (limit_for state (counts_for row.profile.purpose connector) asked second row ≡ None)
    ⊎ (why_not state connector asked second row ≢ None)
SaysAt NotLeast state connector asked second row = why_not state connector asked second row ≡ None
SaysAt NoActiveConnector state connector asked second row = ⊥

-- ---- in a request

-- whether a row is checked for one connector alone: the requested one, or 0 for a
-- ChargePointMaxProfile
abbrev pub is_of_one : ℕ → Row → Bool
is_of_one asked row = not (asked == 0) || is_charge_point_max row.profile.purpose

-- whether a row may apply to a connector with a transaction (connector numbers have 32 bits)
abbrev pub is_of_active : PointState → Row → ℕ → Bool
is_of_active state row connector =
    is_some (active_since state connector) && ((row.connector == 0) || (row.connector == connector))
    && nat_lt connector (2 ^ 32)

-- A row is checked for a connector: the requested one, or for the whole point each one with a
-- transaction to which the row may apply.
abbrev pub LooksAt : PointState → ℕ → Row → ℕ → Type 0
LooksAt state asked row connector =
    (if is_of_one asked row then connector == asked else is_of_active state row connector) ≡ true

-- a reason holds at each second of a request for each connector for which the row is checked, and
-- there is such a connector
pub record SaysThroughout (reason : NotCountedReason) (state : PointState) (ask : Ask) (row : Row)
    : Type 0 where
  pub one : ℕ
  pub row_at_connector : LooksAt state ask.connector row one
  pub each :
      (connector second : ℕ) → LooksAt state ask.connector row connector
      → ask.start ≤ second → second < ask.start + ask.duration
      → SaysAt reason state connector ask.start second row

-- a row prevails at a second of a request for a connector for which it is checked
pub record PrevailsOnce (state : PointState) (ask : Ask) (row : Row) : Type 0 where
  pub connector : ℕ
  pub row_at_connector : LooksAt state ask.connector row connector
  pub second : ℕ
  pub from : ask.start ≤ second
  pub before : second < ask.start + ask.duration
  pub is : SaysAt NotLeast state connector ask.start second row

-- A reason of a row holds throughout the request. NotLeast says that the row prevails at some
-- second. NoActiveConnector says that the row is checked for no connector.
abbrev pub IsReason : NotCountedReason → PointState → Ask → Row → Type 0
IsReason (NotPrevailing why) state ask row = SaysThroughout (NotPrevailing why) state ask row
IsReason NoLimit state ask row = SaysThroughout NoLimit state ask row
IsReason BehindOthers state ask row = SaysThroughout BehindOthers state ask row
IsReason NotLeast state ask row = PrevailsOnce state ask row
IsReason NoActiveConnector state ask row =
    (connector : ℕ) → ¬ (LooksAt state ask.connector row connector)

-- an entry of a profile that never sets the limit is a row of the point, with a right reason
pub record HasReason (state : PointState) (ask : Ask) (entry : NotCounted) : Type 0 where
  pub place : ℕ
  pub row : Row
  pub stands : slice_get state.rows place ≡ Some row
  pub profile : entry.profile ≡ profile_of row
  pub reason : IsReason entry.reason state ask row
