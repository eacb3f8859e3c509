-- Books that are equal field by field are the same.
use Rattle.std.specs.Prelude.{IsTrue}
use Rattle.std.proofs.Common.{◌≡◌, ◌↔◌, ℕ, ℤ, ◌==◌, ◌&&◌, nat_le, Bool, true, false, List, [], ◌∷◌, Option, Some, None, refl, sym, ap, ◌∙◌, subst}
use Rattle.std.proofs.lemmas.Bool.{eqb-true, eq-eqb}
use Rattle.std.proofs.lemmas.Bool.Decides.{Decides-int_eq}
use Rattle.std.proofs.Math.Bool.{Bool-set}
use Rattle.std.proofs.Math.IntN.{ℤ_set}
use Rattle.std.proofs.Math.Nat.{ℕ_set}
use mathlib.Core.Sum.{⊎_set}
use mathlib.Core.HLevel.{is_prop→PathP}
use Rattle.std.specs.Option.{option_eq}
use Rattle.std.specs.Ordering.{int_eq}
use Rattle.profile.specs.declared.charging_profile.Profile.{Profile}
use Rattle.profile.specs.declared.kind.Kind.{Kind}
use Rattle.profile.specs.declared.kind.Kind.TheVariants.{Absolute, Recurring, Relative}
use Rattle.profile.specs.declared.kind.Recurrency.{Recurrency}
use Rattle.profile.specs.declared.kind.Recurrency.TheVariants.{Daily, Weekly}
use Rattle.profile.specs.declared.period.Period.{Period}
use Rattle.profile.specs.declared.purpose.Purpose.{Purpose}
use Rattle.profile.specs.declared.purpose.Purpose.TheVariants.{ChargePointMaxProfile, TxDefaultProfile, TxProfile}
use Rattle.profile.specs.declared.row.Row.{Row}
use Rattle.profile.specs.declared.schedule.Schedule.{Schedule}
use Rattle.profile.specs.declared.unit.Unit.{Unit}
use Rattle.profile.specs.declared.unit.Unit.TheVariants as units
use Rattle.profile.specs.Kind.{start_of}
use Rattle.profile.specs.Limits.{max_stack_level}
use Rattle.profile.specs.Purpose.{transaction_of}
use Rattle.profile.specs.Unit.{unit_eq}
use Rattle.transactions.specs.declared.begin.Begin.{Begin}
use Rattle.transactions.specs.declared.transaction.Transaction.{Transaction}
use Rattle.point_book.specs.Book.{BookState}
use Rattle.sweep_compiler.specs.Verdict.{AuditRequest}
use Rattle.site_core.specs.Equal.{same_list, same_number, same_purpose, same_recurrency, same_kind, same_period, same_schedule, same_profile, same_row, same_begin, same_transaction, same_transactions, same_book, same_request, AreOne}

-- ---- both ways

-- the test holds only of the same value twice, and of each value with itself
record Tells {X : Type 0} (same : X → X → Bool) : Type 0 where
  one : (x y : X) → same x y ≡ true → x ≡ y
  itself : (x : X) → same x x ≡ true

both_ways : {X : Type 0} (same : X → X → Bool) → Tells same → AreOne same
both_ways same tells one other = (
  tells.one one other,
  λ e. subst (λ x. same one x ≡ true) e (tells.itself one),
)

and_both : (a b : Bool) → (a && b) ≡ true → (a ≡ true) × (b ≡ true)
and_both true b is = (refl, is)
and_both false b is = absurd (cc is)

both_and : (a b : Bool) → a ≡ true → b ≡ true → (a && b) ≡ true
both_and a b is also = rw is also

-- ---- numbers, options, lists

numbers : Tells same_number
numbers = record { one = eqb-true; itself = λ n. eq-eqb n n refl }

whole_numbers : Tells int_eq
whole_numbers = record {
  one = λ m n is. (Decides-int_eq m n).0 is;
  itself = λ n. (Decides-int_eq n n).1 refl;
}

options : {X : Type 0} (same : X → X → Bool) → Tells same → Tells (option_eq same)
options {X} same tells = record { one = one; itself = itself }
  where
    one : (x y : Option X) → option_eq same x y ≡ true → x ≡ y
    one None None is = refl
    one None (Some y) is = absurd (cc is)
    one (Some x) None is = absurd (cc is)
    one (Some x) (Some y) is = ap Some (tells.one x y is)

    itself : (x : Option X) → option_eq same x x ≡ true
    itself None = refl
    itself (Some x) = tells.itself x

lists : {X : Type 0} (same : X → X → Bool) → Tells same → Tells (same_list same)
lists {X} same tells = record { one = one; itself = itself }
  where
    one : (xs ys : List X) → same_list same xs ys ≡ true → xs ≡ ys
    one [] [] is = refl
    one [] (y ∷ ys) is = absurd (cc is)
    one (x ∷ xs) [] is = absurd (cc is)
    one (x ∷ xs) (y ∷ ys) is =
        let both = and_both (same x y) (same_list same xs ys) is in
        ap (λ (z : X). z ∷ xs) (tells.one x y both.0)
        ∙ ap (λ (zs : List X). y ∷ zs) (one xs ys both.1)

    itself : (xs : List X) → same_list same xs xs ≡ true
    itself [] = refl
    itself (x ∷ xs) = both_and (same x x) (same_list same xs xs) (tells.itself x) (itself xs)

-- ---- profiles

same_units : Tells unit_eq
same_units = record { one = one; itself = itself }
  where
    one : (x y : Unit) → unit_eq x y ≡ true → x ≡ y
    one units.A units.A is = refl
    one units.A units.W is = absurd (cc is)
    one units.W units.A is = absurd (cc is)
    one units.W units.W is = refl

    itself : (x : Unit) → unit_eq x x ≡ true
    itself units.A = refl
    itself units.W = refl

purposes : Tells same_purpose
purposes = record { one = one; itself = itself }
  where
    one : (x y : Purpose) → same_purpose x y ≡ true → x ≡ y
    one ChargePointMaxProfile ChargePointMaxProfile is = refl
    one ChargePointMaxProfile TxDefaultProfile is = absurd (cc is)
    one ChargePointMaxProfile TxProfile is = absurd (cc is)
    one TxDefaultProfile ChargePointMaxProfile is = absurd (cc is)
    one TxDefaultProfile TxDefaultProfile is = refl
    one TxDefaultProfile TxProfile is = absurd (cc is)
    one TxProfile ChargePointMaxProfile is = absurd (cc is)
    one TxProfile TxDefaultProfile is = absurd (cc is)
    one TxProfile TxProfile is = refl

    itself : (x : Purpose) → same_purpose x x ≡ true
    itself ChargePointMaxProfile = refl
    itself TxDefaultProfile = refl
    itself TxProfile = refl

recurrencies : Tells same_recurrency
recurrencies = record { one = one; itself = itself }
  where
    one : (x y : Recurrency) → same_recurrency x y ≡ true → x ≡ y
    one Daily Daily is = refl
    one Daily Weekly is = absurd (cc is)
    one Weekly Daily is = absurd (cc is)
    one Weekly Weekly is = refl

    itself : (x : Recurrency) → same_recurrency x x ≡ true
    itself Daily = refl
    itself Weekly = refl

kinds : Tells same_kind
kinds = record { one = one; itself = itself }
  where
    one : (x y : Kind) → same_kind x y ≡ true → x ≡ y
    one Absolute Absolute is = refl
    one Absolute (Recurring y) is = absurd (cc is)
    one Absolute Relative is = absurd (cc is)
    one (Recurring x) Absolute is = absurd (cc is)
    one (Recurring x) (Recurring y) is = ap Recurring (recurrencies.one x y is)
    one (Recurring x) Relative is = absurd (cc is)
    one Relative Absolute is = absurd (cc is)
    one Relative (Recurring y) is = absurd (cc is)
    one Relative Relative is = refl

    itself : (x : Kind) → same_kind x x ≡ true
    itself Absolute = refl
    itself (Recurring x) = recurrencies.itself x
    itself Relative = refl

maybe_numbers : Tells (option_eq same_number)
maybe_numbers = options same_number numbers

periods : Tells same_period
periods = record { one = one; itself = itself }
  where
    one : (x y : Period) → same_period x y ≡ true → x ≡ y
    one x y is =
        let c = and_both _ (option_eq same_number x.number_phases y.number_phases) is in
        let b = and_both (x.start == y.start) (x.limit == y.limit) c.0 in
        let starts = numbers.one x.start y.start b.0 in
        let limits = numbers.one x.limit y.limit b.1 in
        let phases = maybe_numbers.one x.number_phases y.number_phases c.1 in
        λ i. record {
          start = starts i;
          limit = limits i;
          number_phases = phases i;
        }

    itself : (x : Period) → same_period x x ≡ true
    itself x = both_and _ _ (both_and _ _ (numbers.itself x.start)
        (numbers.itself x.limit))
        (maybe_numbers.itself x.number_phases)

period_lists : Tells (same_list same_period)
period_lists = lists same_period periods

schedules : Tells same_schedule
schedules = record { one = one; itself = itself }
  where
    one : (x y : Schedule) → same_schedule x y ≡ true → x ≡ y
    one x y is =
        let e = and_both _ (option_eq same_number x.min_charging_rate y.min_charging_rate) is in
        let d = and_both _ (same_list same_period x.periods y.periods) e.0 in
        let c = and_both _ (unit_eq x.unit y.unit) d.0 in
        let b = and_both (option_eq same_number x.duration y.duration) (option_eq same_number x.start y.start) c.0 in
        let durations = maybe_numbers.one x.duration y.duration b.0 in
        let starts = maybe_numbers.one x.start y.start b.1 in
        let both_units = same_units.one x.unit y.unit c.1 in
        let items = period_lists.one x.periods y.periods d.1 in
        let rates = maybe_numbers.one x.min_charging_rate y.min_charging_rate e.1 in
        λ i. record {
          duration = durations i;
          start = starts i;
          unit = both_units i;
          periods = items i;
          min_charging_rate = rates i;
        }

    itself : (x : Schedule) → same_schedule x x ≡ true
    itself x = both_and _ _ (both_and _ _ (both_and _ _ (both_and _ _ (maybe_numbers.itself x.duration)
        (maybe_numbers.itself x.start))
        (same_units.itself x.unit))
        (period_lists.itself x.periods))
        (maybe_numbers.itself x.min_charging_rate)

transaction_ids : IsSet (Option ℤ)
transaction_ids = hlevel (⊎_set, ℤ_set)

start_instants : IsSet (Option ℕ)
start_instants = hlevel (⊎_set, ℕ_set)

maybe_whole : Tells (option_eq int_eq)
maybe_whole = options int_eq whole_numbers

of_fields : (a b : Profile) → a.id ≡ b.id → a.transaction ≡ b.transaction
    → a.stack_level ≡ b.stack_level → a.purpose ≡ b.purpose → a.kind ≡ b.kind
    → a.valid_from ≡ b.valid_from → a.valid_to ≡ b.valid_to → a.schedule ≡ b.schedule
    → a ≡ b
of_fields a b ids transactions levels purposes kinds froms tos schedules = λ i. record {
  id = ids i;
  transaction = transactions i;
  stack_level = levels i;
  purpose = purposes i;
  kind = kinds i;
  valid_from = froms i;
  valid_to = tos i;
  schedule = schedules i;
  low = is_prop→PathP (λ j. nat_le (levels j) max_stack_level ≡ true)
      (λ j. Bool-set (nat_le (levels j) max_stack_level) true) a.low b.low i;
  own_transaction = is_prop→PathP
      (λ j. transaction_of (purposes j) (transactions j) ≡ transactions j)
      (λ j. transaction_ids (transaction_of (purposes j) (transactions j)) (transactions j))
      a.own_transaction b.own_transaction i;
  own_start = is_prop→PathP
      (λ j. start_of (kinds j) (schedules j).start ≡ (schedules j).start)
      (λ j. start_instants (start_of (kinds j) (schedules j).start) (schedules j).start)
      a.own_start b.own_start i;
}

profiles : Tells same_profile
profiles = record { one = one; itself = itself }
  where
    one : (x y : Profile) → same_profile x y ≡ true → x ≡ y
    one x y is =
        let h = and_both _ (same_schedule x.schedule y.schedule) is in
        let g = and_both _ (option_eq same_number x.valid_to y.valid_to) h.0 in
        let f = and_both _ (option_eq same_number x.valid_from y.valid_from) g.0 in
        let e = and_both _ (same_kind x.kind y.kind) f.0 in
        let d = and_both _ (same_purpose x.purpose y.purpose) e.0 in
        let c = and_both _ (x.stack_level == y.stack_level) d.0 in
        let b = and_both (int_eq x.id y.id) (option_eq int_eq x.transaction y.transaction) c.0 in
        let ids = whole_numbers.one x.id y.id b.0 in
        let numbered = maybe_whole.one x.transaction y.transaction b.1 in
        let levels = numbers.one x.stack_level y.stack_level c.1 in
        let meant = purposes.one x.purpose y.purpose d.1 in
        let counted = kinds.one x.kind y.kind e.1 in
        let froms = maybe_numbers.one x.valid_from y.valid_from f.1 in
        let tos = maybe_numbers.one x.valid_to y.valid_to g.1 in
        let both = schedules.one x.schedule y.schedule h.1 in
        of_fields x y ids numbered levels meant counted froms tos both

    itself : (x : Profile) → same_profile x x ≡ true
    itself x = both_and _ _ (both_and _ _ (both_and _ _ (both_and _ _ (both_and _ _ (both_and _ _ (both_and _ _ (whole_numbers.itself x.id)
        (maybe_whole.itself x.transaction))
        (numbers.itself x.stack_level))
        (purposes.itself x.purpose))
        (kinds.itself x.kind))
        (maybe_numbers.itself x.valid_from))
        (maybe_numbers.itself x.valid_to))
        (schedules.itself x.schedule)

rows : Tells same_row
rows = record { one = one; itself = itself }
  where
    one : (x y : Row) → same_row x y ≡ true → x ≡ y
    one x y is =
        let c = and_both _ (same_profile x.profile y.profile) is in
        let b = and_both (x.connector == y.connector) (x.moment == y.moment) c.0 in
        let connectors = numbers.one x.connector y.connector b.0 in
        let moments = numbers.one x.moment y.moment b.1 in
        let both = profiles.one x.profile y.profile c.1 in
        λ i. record {
          connector = connectors i;
          moment = moments i;
          profile = both i;
        }

    itself : (x : Row) → same_row x x ≡ true
    itself x = both_and _ _ (both_and _ _ (numbers.itself x.connector)
        (numbers.itself x.moment))
        (profiles.itself x.profile)

-- ---- transactions

texts : Tells (same_list same_number)
texts = lists same_number numbers

begins : Tells same_begin
begins = record { one = one; itself = itself }
  where
    one : (x y : Begin) → same_begin x y ≡ true → x ≡ y
    one x y is =
        let c = and_both _ (x.timestamp == y.timestamp) is in
        let b = and_both (same_list same_number x.id_tag y.id_tag) (int_eq x.meter_start y.meter_start) c.0 in
        let tags = texts.one x.id_tag y.id_tag b.0 in
        let meters = whole_numbers.one x.meter_start y.meter_start b.1 in
        let moments = numbers.one x.timestamp y.timestamp c.1 in
        λ i. record {
          id_tag = tags i;
          meter_start = meters i;
          timestamp = moments i;
        }

    itself : (x : Begin) → same_begin x x ≡ true
    itself x = both_and _ _ (both_and _ _ (texts.itself x.id_tag)
        (whole_numbers.itself x.meter_start))
        (numbers.itself x.timestamp)

transactions : Tells same_transaction
transactions = record { one = one; itself = itself }
  where
    one : (x y : Transaction) → same_transaction x y ≡ true → x ≡ y
    one x y is =
        let b = and_both (int_eq x.id y.id) (same_begin x.begin y.begin) is in
        let ids = whole_numbers.one x.id y.id b.0 in
        let starts = begins.one x.begin y.begin b.1 in
        λ i. record {
          id = ids i;
          begin = starts i;
        }

    itself : (x : Transaction) → same_transaction x x ≡ true
    itself x = both_and _ _ (whole_numbers.itself x.id)
        (begins.itself x.begin)

slots : Tells same_transactions
slots = lists (option_eq same_transaction) (options same_transaction transactions)

-- ---- books

row_lists : Tells (same_list same_row)
row_lists = lists same_row rows

books : Tells same_book
books = record { one = one; itself = itself }
  where
    one : (x y : BookState) → same_book x y ≡ true → x ≡ y
    one x y is =
        let d = and_both _ (same_transactions x.transactions y.transactions) is in
        let c = and_both _ (same_list same_row x.rows y.rows) d.0 in
        let b = and_both (x.ceiling == y.ceiling) (same_list same_number x.ceilings y.ceilings) c.0 in
        let points = numbers.one x.ceiling y.ceiling b.0 in
        let connectors = texts.one x.ceilings y.ceilings b.1 in
        let standing = row_lists.one x.rows y.rows c.1 in
        let active = slots.one x.transactions y.transactions d.1 in
        λ i. record {
          ceiling = points i;
          ceilings = connectors i;
          rows = standing i;
          transactions = active i;
        }

    itself : (x : BookState) → same_book x x ≡ true
    itself x = both_and _ _ (both_and _ _ (both_and _ _ (numbers.itself x.ceiling)
        (texts.itself x.ceilings))
        (row_lists.itself x.rows))
        (slots.itself x.transactions)

requests : Tells same_request
requests = record { one = one; itself = itself }
  where
    one : (x y : AuditRequest) → same_request x y ≡ true → x ≡ y
    one x y is =
        let d = and_both _ (unit_eq x.unit y.unit) is in
        let c = and_both _ (x.duration == y.duration) d.0 in
        let b = and_both (same_book x.book y.book) (x.connector == y.connector) c.0 in
        let kept = books.one x.book y.book b.0 in
        let connectors = numbers.one x.connector y.connector b.1 in
        let durations = numbers.one x.duration y.duration c.1 in
        let both_units = same_units.one x.unit y.unit d.1 in
        λ i. record {
          book = kept i;
          connector = connectors i;
          duration = durations i;
          unit = both_units i;
        }

    itself : (x : AuditRequest) → same_request x x ≡ true
    itself x = both_and _ _ (both_and _ _ (both_and _ _ (books.itself x.book)
        (numbers.itself x.connector))
        (numbers.itself x.duration))
        (same_units.itself x.unit)

pub equal_requests_are_one : AreOne same_request
equal_requests_are_one = both_ways same_request requests

pub equal_transactions_are_one : AreOne same_transactions
equal_transactions_are_one = both_ways same_transactions slots

-- ---- tests

-- a test that decides whether two values are equal is the comparison of their fields
tested : {X : Type 0} (same : X → X → Bool) → AreOne same → (one other : X) (b : Bool)
    → IsTrue b ↔ (one ≡ other) → b ≡ same one other
tested {X} same are one other b tells = by b (same one other) refl tells
  where
    by : (b found : Bool) → same one other ≡ found → IsTrue b ↔ (one ≡ other)
        → b ≡ same one other
    by true found is tells = sym ((are one other).1 (tells.0 refl))
    by false false is tells = sym is
    by false true is tells = absurd (cc (tells.1 ((are one other).0 is)))

pub request_test : (one other : AuditRequest) (b : Bool) → IsTrue b ↔ (one ≡ other)
    → b ≡ same_request one other
request_test = tested same_request equal_requests_are_one

pub transactions_test : (one other : List (Option Transaction)) (b : Bool)
    → IsTrue b ↔ (one ≡ other) → b ≡ same_transactions one other
transactions_test = tested same_transactions equal_transactions_are_one
