-- Whether two books are equal, field by field. By the law `equal_books_are_one`, equal ones are the
-- same.
use Rattle.std.specs.Prelude.{ℕ, ◌≡◌, ◌↔◌, ◌==◌, ◌&&◌, Bool, true, false, List, [], ◌∷◌, Option}
use Rattle.std.specs.Option.{option_eq}
use Rattle.std.specs.Ordering.{int_eq}
use Rattle.profile.specs.declared.charging_profile.Profile.{Profile}
use Rattle.profile.specs.declared.kind.Kind.{Kind}
use Rattle.profile.specs.declared.kind.Kind.TheVariants.{Absolute, Recurring, Relative}
use Rattle.profile.specs.declared.kind.Recurrency.{Recurrency}
use Rattle.profile.specs.declared.kind.Recurrency.TheVariants.{Daily, Weekly}
use Rattle.profile.specs.declared.period.Period.{Period}
use Rattle.profile.specs.declared.purpose.Purpose.{Purpose}
use Rattle.profile.specs.declared.purpose.Purpose.TheVariants.{ChargePointMaxProfile, TxDefaultProfile, TxProfile}
use Rattle.profile.specs.declared.row.Row.{Row}
use Rattle.profile.specs.declared.schedule.Schedule.{Schedule}
use Rattle.profile.specs.Unit.{unit_eq}
use Rattle.transactions.specs.declared.begin.Begin.{Begin}
use Rattle.transactions.specs.declared.transaction.Transaction.{Transaction}
use Rattle.point_book.specs.Book.{BookState}
use Rattle.sweep_compiler.specs.Verdict.{AuditRequest}

abbrev pub same_list : {X : Type 0} → (X → X → Bool) → List X → List X → Bool
same_list same [] [] = true
same_list same [] (y ∷ ys) = false
same_list same (x ∷ xs) [] = false
same_list same (x ∷ xs) (y ∷ ys) = same x y && same_list same xs ys

abbrev pub same_number : ℕ → ℕ → Bool
same_number one other = one == other

-- ---- profiles

abbrev pub same_purpose : Purpose → Purpose → Bool
same_purpose ChargePointMaxProfile ChargePointMaxProfile = true
same_purpose TxDefaultProfile TxDefaultProfile = true
same_purpose TxProfile TxProfile = true
same_purpose _ _ = false

abbrev pub same_recurrency : Recurrency → Recurrency → Bool
same_recurrency Daily Daily = true
same_recurrency Weekly Weekly = true
same_recurrency _ _ = false

abbrev pub same_kind : Kind → Kind → Bool
same_kind Absolute Absolute = true
same_kind (Recurring one) (Recurring other) = same_recurrency one other
same_kind Relative Relative = true
same_kind _ _ = false

abbrev pub same_period : Period → Period → Bool
same_period one other =
    (one.start == other.start)
    && (one.limit == other.limit)
    && option_eq same_number one.number_phases other.number_phases

abbrev pub same_schedule : Schedule → Schedule → Bool
same_schedule one other =
    option_eq same_number one.duration other.duration
    && option_eq same_number one.start other.start
    && unit_eq one.unit other.unit
    && same_list same_period one.periods other.periods
    && option_eq same_number one.min_charging_rate other.min_charging_rate

abbrev pub same_profile : Profile → Profile → Bool
same_profile one other =
    int_eq one.id other.id
    && option_eq int_eq one.transaction other.transaction
    && (one.stack_level == other.stack_level)
    && same_purpose one.purpose other.purpose
    && same_kind one.kind other.kind
    && option_eq same_number one.valid_from other.valid_from
    && option_eq same_number one.valid_to other.valid_to
    && same_schedule one.schedule other.schedule

abbrev pub same_row : Row → Row → Bool
same_row one other =
    (one.connector == other.connector)
    && (one.moment == other.moment)
    && same_profile one.profile other.profile

-- ---- transactions

-- an idTag with its letters' case
abbrev pub same_begin : Begin → Begin → Bool
same_begin one other =
    same_list same_number one.id_tag other.id_tag
    && int_eq one.meter_start other.meter_start
    && (one.timestamp == other.timestamp)

abbrev pub same_transaction : Transaction → Transaction → Bool
same_transaction one other = int_eq one.id other.id && same_begin one.begin other.begin

abbrev pub same_transactions : List (Option Transaction) → List (Option Transaction) → Bool
same_transactions one other = same_list (option_eq same_transaction) one other

-- ---- books

abbrev pub same_book : BookState → BookState → Bool
same_book one other =
    (one.ceiling == other.ceiling)
    && same_list same_number one.ceilings other.ceilings
    && same_list same_row one.rows other.rows
    && same_transactions one.transactions other.transactions

-- the request of an audit, with the book that the point had then
abbrev pub same_request : AuditRequest → AuditRequest → Bool
same_request one other =
    same_book one.book other.book
    && (one.connector == other.connector)
    && (one.duration == other.duration)
    && unit_eq one.unit other.unit

-- ---- the law

abbrev pub AreOne : {X : Type 0} → (X → X → Bool) → Type 0
AreOne {X} same = (one other : X) → (same one other ≡ true) ↔ (one ≡ other)
