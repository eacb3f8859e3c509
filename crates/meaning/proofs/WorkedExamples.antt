-- Examples computed from the definitions alone, compared with values found by hand. The point has a
-- ceiling of 63.0 A and two connectors of 32.0 A; limits are in tenths.
use Rattle.std.specs.Prelude.{◌≡◌, ℕ, ◌+◌, nat_le, IsTrue, List, [], ◌∷◌, map, Option, Some, None}
use Rattle.std.proofs.Common.{refl}
use Rattle.std.specs.List.{range_with_len}
use Rattle.std.proofs.Math.IntN.{pos}
use Rattle.profile.specs.Limits.{max_stack_level}
use Rattle.profile.specs.declared.kind.Kind.{Kind}
use Rattle.profile.specs.declared.kind.Kind.TheVariants.{Absolute, Recurring, Relative}
use Rattle.profile.specs.declared.kind.Recurrency.TheVariants.{Daily, Weekly}
use Rattle.profile.specs.declared.period.Period.{Period}
use Rattle.profile.specs.declared.purpose.Purpose.{Purpose}
use Rattle.profile.specs.declared.purpose.Purpose.TheVariants.{ChargePointMaxProfile, TxDefaultProfile, TxProfile}
use Rattle.profile.specs.declared.row.Row.{Row}
use Rattle.profile.specs.declared.unit.Unit.TheVariants.{A}
use Rattle.profile.specs.Purpose.{transaction_of}
use Rattle.profile.specs.Kind.{start_of}
use Rattle.meaning.specs.declared.composite.CompositePeriod.{CompositePeriod}
use Rattle.meaning.specs.declared.cause.Cause.{Cause}
use Rattle.meaning.specs.declared.cause.Cause.TheVariants.{Profile, ConnectorCeiling, Sum}
use Rattle.meaning.specs.declared.cause.Reason.{Reason}
use Rattle.meaning.specs.declared.cause.Share.{Share}
use Rattle.meaning.specs.declared.cause.WhyNot.{WhyNot}
use Rattle.meaning.specs.declared.cause.WhyNot.TheVariants.{Hidden, PastDuration, BehindTxProfile}
use Rattle.meaning.specs.View.{PointState}
use Rattle.meaning.specs.Limit.{limit}
use Rattle.meaning.specs.Cause.{reason}
use Rattle.meaning.specs.WhyNot.{why_not}
use Rattle.meaning.specs.ByCases.Exact.{exact_periods}

-- 2025-01-01T00:00:00Z
abbrev midnight : ℕ
midnight = 1735689600

abbrev at_start : ℕ → Option ℕ
at_start second = Some (midnight + second)

abbrev period : ℕ → ℕ → Period
period start limit = record { start = start; limit = limit; number_phases = None }

abbrev span : ℕ → ℕ → CompositePeriod
span start limit = record { start = start; limit = limit }

pub no_transaction : (purpose : Purpose) → transaction_of purpose None ≡ None
no_transaction ChargePointMaxProfile = refl
no_transaction TxDefaultProfile = refl
no_transaction TxProfile = refl

-- a row, installed at midnight, valid until a second if one is given
abbrev row_until : Option ℕ → ℕ → Purpose → (level : ℕ) → IsTrue (nat_le level max_stack_level) → (kind : Kind) (start : Option ℕ) → start_of kind start ≡ start → Option ℕ → List Period → Row
row_until until connector purpose level low kind start own duration periods = record {
  connector = connector;
  moment = midnight;
  profile = record {
    id = pos 1;
    transaction = None;
    stack_level = level;
    purpose = purpose;
    kind = kind;
    valid_from = None;
    valid_to = until;
    schedule = record { duration = duration; start = start; unit = A; periods = periods; min_charging_rate = None };
    low = low;
    own_transaction = no_transaction purpose;
    own_start = own;
  };
}

abbrev row_at : ℕ → Purpose → (level : ℕ) → IsTrue (nat_le level max_stack_level) → (kind : Kind) (start : Option ℕ) → start_of kind start ≡ start → Option ℕ → List Period → Row
row_at = row_until None

pub low0 : IsTrue (nat_le 0 max_stack_level)
low0 = refl

pub low1 : IsTrue (nat_le 1 max_stack_level)
low1 = refl

pub low2 : IsTrue (nat_le 2 max_stack_level)
low2 = refl

abbrev point : List (Option ℕ) → List Row → PointState
point starts rows = record { ceiling = 630; ceilings = 320 ∷ (320 ∷ []); starts = starts; rows = rows }

abbrev idle : List (Option ℕ)
idle = None ∷ (None ∷ [])

abbrev on_first : List (Option ℕ)
on_first = at_start 0 ∷ (None ∷ [])

-- the exact schedule of a connector, requested from a second after midnight for a number of seconds
abbrev schedule : PointState → ℕ → ℕ → ℕ → List CompositePeriod
schedule b connector asked duration = exact_periods (λ second. limit b connector (midnight + asked) (midnight + asked + second)) duration

-- the limits of consecutive seconds in such a schedule
abbrev limits : PointState → ℕ → ℕ → ℕ → ℕ → List ℕ
limits b connector asked second many = map (λ (s : ℕ). limit b connector (midnight + asked) (midnight + asked + s)) (range_with_len second many)

pub no_profile : schedule (point idle []) 1 0 60 ≡ span 0 320 ∷ []
no_profile = refl

pub no_transaction_at_the_point : schedule (point idle []) 0 0 60 ≡ span 0 0 ∷ []
no_transaction_at_the_point = refl

-- a daily profile from 22:00 to 06:00 above a permanent one
abbrev night : PointState
night = point idle
    (row_at 0 TxDefaultProfile 1 low1 (Recurring Daily) (at_start 79200) refl (Some 28800) (period 0 60 ∷ [])
    ∷ (row_at 0 TxDefaultProfile 0 low0 Absolute (at_start 0) refl None (period 0 200 ∷ []) ∷ []))

-- requested at 05:59:58 two days later
pub two_levels : schedule night 1 194398 10 ≡ span 0 60 ∷ (span 2 200 ∷ [])
two_levels = refl

pub two_levels_at_night : limits night 1 194398 57600 4 ≡ 200 ∷ (200 ∷ (60 ∷ (60 ∷ [])))
two_levels_at_night = refl

-- a duration longer than the recurrence
pub longer_than_a_day : schedule (point idle
    (row_at 0 TxDefaultProfile 0 low0 (Recurring Daily) (at_start 0) refl (Some 100000) (period 0 100 ∷ (period 43200 200 ∷ [])) ∷ [])) 1 86399 2
    ≡ span 0 200 ∷ (span 1 100 ∷ [])
longer_than_a_day = refl

-- the last second of a week and the first of the next
pub weekly : schedule (point idle
    (row_at 0 TxDefaultProfile 0 low0 (Recurring Weekly) (at_start 0) refl None (period 0 320 ∷ (period 432000 100 ∷ [])) ∷ [])) 1 604799 2
    ≡ span 0 100 ∷ (span 1 320 ∷ [])
weekly = refl

abbrev default_row : Row
default_row = row_at 0 TxDefaultProfile 0 low0 Absolute (at_start 0) refl None (period 0 100 ∷ [])

abbrev transaction_row : Row
transaction_row = row_at 1 TxProfile 0 low0 Relative None refl (Some 120) (period 0 60 ∷ (period 60 160 ∷ []))

-- the default profile counts again once the transaction's own has ended
pub transaction_profile : schedule (point on_first (transaction_row ∷ (default_row ∷ []))) 1 30 200 ≡ span 0 60 ∷ (span 30 160 ∷ (span 90 100 ∷ []))
transaction_profile = refl

pub transaction_stopped : schedule (point idle (default_row ∷ [])) 1 30 200 ≡ span 0 100 ∷ []
transaction_stopped = refl

-- a TxProfile without its transaction doesn't count
pub transaction_missing : schedule (point idle (transaction_row ∷ (default_row ∷ []))) 1 30 200 ≡ span 0 100 ∷ []
transaction_missing = refl

pub transaction_begun_anew : schedule (point (at_start 20 ∷ (None ∷ [])) (default_row ∷ [])) 1 30 200 ≡ span 0 100 ∷ []
transaction_begun_anew = refl

abbrev own_default : PointState
own_default = point idle
    (row_at 0 TxDefaultProfile 1 low1 Absolute (at_start 0) refl None (period 0 100 ∷ [])
    ∷ (row_at 1 TxDefaultProfile 1 low1 Absolute (at_start 0) refl (Some 60) (period 0 120 ∷ [])
    ∷ (row_at 0 TxDefaultProfile 0 low0 Absolute (at_start 0) refl None (period 0 80 ∷ []) ∷ [])))

-- a connector's own default, which ended by 01:00, still hides the point's default of its level
pub hidden_by_level : schedule own_default 1 3600 60 ≡ span 0 80 ∷ []
hidden_by_level = refl

pub hidden_for_one_connector : schedule own_default 2 3600 60 ≡ span 0 100 ∷ []
hidden_for_one_connector = refl

-- neighbouring periods with equal limits are one
pub equal_neighbours : schedule (point idle
    (row_at 0 TxDefaultProfile 2 low2 Absolute (at_start 0) refl (Some 60) (period 0 160 ∷ [])
    ∷ (row_at 0 TxDefaultProfile 1 low1 Absolute (at_start 0) refl None (period 0 160 ∷ []) ∷ []))) 1 30 60
    ≡ span 0 160 ∷ []
equal_neighbours = refl

abbrev shared : ℕ → PointState
shared most = point (at_start 0 ∷ (at_start 0 ∷ []))
    (row_at 0 TxDefaultProfile 0 low0 Absolute (at_start 0) refl None (period 0 200 ∷ [])
    ∷ (row_at 0 ChargePointMaxProfile 0 low0 Absolute (at_start 0) refl None (period 0 most ∷ []) ∷ []))

pub sum_of_connectors : schedule (shared 500) 0 10 60 ≡ span 0 400 ∷ []
sum_of_connectors = refl

pub sum_above_the_point : schedule (shared 320) 0 10 60 ≡ span 0 320 ∷ []
sum_above_the_point = refl

-- without a startSchedule, a default counts from the start of the request, and a maximum from its
-- install
pub from_the_ask : schedule (point idle (row_at 0 TxDefaultProfile 0 low0 Absolute None refl (Some 60) (period 0 100 ∷ []) ∷ [])) 1 30 100
    ≡ span 0 100 ∷ (span 60 320 ∷ [])
from_the_ask = refl

pub from_the_install : schedule (point idle (row_at 0 ChargePointMaxProfile 0 low0 Absolute None refl (Some 60) (period 0 120 ∷ []) ∷ [])) 1 30 100
    ≡ span 0 120 ∷ (span 30 320 ∷ [])
from_the_install = refl

pub until_valid_to : schedule (point idle (row_until (at_start 30) 0 TxDefaultProfile 0 low0 Absolute (at_start 0) refl None (period 0 100 ∷ []) ∷ [])) 1 29 2
    ≡ span 0 100 ∷ (span 1 320 ∷ [])
until_valid_to = refl

abbrev from_the_transaction : PointState
from_the_transaction = point on_first (row_at 0 TxDefaultProfile 0 low0 Relative None refl (Some 60) (period 0 100 ∷ []) ∷ [])

-- one row counts from another base at each connector, and for the point from the connector's base
pub base_of_the_first : schedule from_the_transaction 1 30 60 ≡ span 0 100 ∷ (span 30 320 ∷ [])
base_of_the_first = refl

pub base_of_the_second : schedule from_the_transaction 2 30 60 ≡ span 0 100 ∷ []
base_of_the_second = refl

pub base_of_the_point : schedule from_the_transaction 0 30 60 ≡ span 0 100 ∷ (span 30 320 ∷ [])
base_of_the_point = refl

-- ---- causes of a limit

abbrev profile_at : Purpose → ℕ → ℕ → Cause
profile_at purpose level connector = Profile (record { id = pos 1; purpose = purpose; stack_level = level; connector = connector })

abbrev because : ℕ → Cause → List Share → Reason
because limit cause shares = record { limit = limit; cause = cause; shares = shares }

-- the reason in a schedule of a connector, requested from a second after midnight, at a second
-- after that
abbrev why : PointState → ℕ → ℕ → ℕ → Reason
why b connector asked second = reason b connector (midnight + asked) (midnight + asked + second)

pub why_at_night : why night 1 194398 1 ≡ because 60 (profile_at TxDefaultProfile 1 0) []
why_at_night = refl

pub why_in_the_morning : why night 1 194398 2 ≡ because 200 (profile_at TxDefaultProfile 0 0) []
why_in_the_morning = refl

pub why_no_profile : why (point idle []) 1 0 0 ≡ because 320 ConnectorCeiling []
why_no_profile = refl

pub why_no_transaction : why (point idle []) 0 0 0 ≡ because 0 Sum []
why_no_transaction = refl

pub why_transaction : why (point on_first (transaction_row ∷ (default_row ∷ []))) 1 30 59 ≡ because 160 (profile_at TxProfile 0 1) []
why_transaction = refl

pub why_default_again : why (point on_first (transaction_row ∷ (default_row ∷ []))) 1 30 90 ≡ because 100 (profile_at TxDefaultProfile 0 0) []
why_default_again = refl

-- the point's default of level 1 is hidden, and the connector's own has ended
pub why_level_0 : why own_default 1 3600 0 ≡ because 80 (profile_at TxDefaultProfile 0 0) []
why_level_0 = refl

abbrev share_of : ℕ → ℕ → Cause → Share
share_of connector limit cause = record { connector = connector; limit = limit; cause = cause }

pub why_shared : why (shared 500) 0 10 0
    ≡ because 400 Sum (share_of 1 200 (profile_at TxDefaultProfile 0 0) ∷ (share_of 2 200 (profile_at TxDefaultProfile 0 0) ∷ []))
why_shared = refl

pub why_above_the_point : why (shared 320) 0 10 0 ≡ because 320 (profile_at ChargePointMaxProfile 0 0) []
why_above_the_point = refl

-- equal to the sum: the ChargePointMaxProfile comes first
pub why_the_first_of_equals : why (shared 400) 0 10 0 ≡ because 400 (profile_at ChargePointMaxProfile 0 0) []
why_the_first_of_equals = refl

-- the reason why a row doesn't prevail at the start of a schedule requested from a second after
-- midnight
abbrev why_none : PointState → ℕ → ℕ → Row → Option WhyNot
why_none b connector asked row = why_not b connector (midnight + asked) (midnight + asked) row

abbrev level_1_default : Row
level_1_default = row_at 0 TxDefaultProfile 1 low1 Absolute (at_start 0) refl None (period 0 100 ∷ [])

pub hidden_why : why_none own_default 1 3600 level_1_default ≡ Some Hidden
hidden_why = refl

pub hidden_for_one_alone : why_none own_default 2 3600 level_1_default ≡ None
hidden_for_one_alone = refl

pub behind_why : why_none (point on_first (transaction_row ∷ (default_row ∷ []))) 1 30 default_row ≡ Some BehindTxProfile
behind_why = refl

pub run_out_why : why_none (point on_first (transaction_row ∷ (default_row ∷ []))) 1 120 transaction_row ≡ Some PastDuration
run_out_why = refl
