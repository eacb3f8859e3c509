-- There is no reason why a row doesn't prevail exactly if it prevails.
use Rattle.std.proofs.Common.{◌≡◌, ◌↔◌, ℕ, ◌≤◌, ◌==◌, Bool, true, false, not, ◌&&◌, ◌||◌, List, [], ◌∷◌, ◌++◌, filter, cond, Option, Some, None, is_some, nat_lt, option_map, option_and_then, refl, ap, sym, subst, ◌∙◌, ◌⊎◌, inl, inr, arith}
use Rattle.std.specs.List.{filter_map, cons_option, list_any}
use Rattle.std.proofs.lemmas.Bool.Decides.{nat_tests}
use Rattle.profile.specs.declared.purpose.Purpose.{Purpose}
use Rattle.profile.specs.declared.purpose.Purpose.TheVariants.{ChargePointMaxProfile, TxDefaultProfile, TxProfile}
use Rattle.profile.specs.declared.row.Row.{Row}
use Rattle.profile.specs.Candidates.{is_candidate, is_replaced_at}
use Rattle.profile.specs.ChargingProfile.{offset, rate, rate_within, is_before, is_from}
use Rattle.profile.specs.Greatest.{greater, greatest}
use Rattle.profile.specs.Periods.{limit_in}
use Rattle.profile.specs.Purpose.{is_charge_point_max, is_tx, is_tx_default}
use Rattle.profile.specs.Row.{base}
use Rattle.meaning.specs.declared.cause.WhyNot.{WhyNot}
use Rattle.meaning.specs.declared.cause.WhyNot.TheVariants.{OtherConnector, NoTransaction, Hidden, NotYetValid, NoLongerValid, PastDuration, BeforeFirstPeriod, BelowHigherLevel, BehindTxProfile}
use Rattle.meaning.specs.View.{PointState, active_since}
use Rattle.meaning.specs.Prevailing.{counted, has_its_transaction}
use Rattle.meaning.specs.Cause.{RowLimit, with_limit, row_limit, level_of, prevailing_row, counts_for, IsRowOf}
use Rattle.meaning.specs.WhyNot.{first_of, where_so, is_elsewhere, lacks_transaction, is_hidden, why_not_counted, why_no_limit_in, why_no_limit, is_above, why_behind, why_not, Prevails, HaveOwnKeys}
use Rattle.meaning.proofs.Causes.{Counts, prevailing_of, some_is, and_first}

-- ---- reasons, and their absence

first_none : (first later : Option WhyNot) → first_of first later ≡ None → (first ≡ None) × (later ≡ None)
first_none None later h = (refl, h)
first_none (Some why) later h = cc

none_first : (first later : Option WhyNot) → first ≡ None → later ≡ None → first_of first later ≡ None
none_first None later h k = k
none_first (Some why) later h k = cc

where_none : (why : WhyNot) (b : Bool) → where_so why b ≡ None → b ≡ false
where_none why true h = cc
where_none why false h = refl

none_where : (why : WhyNot) (b : Bool) → b ≡ false → where_so why b ≡ None
none_where why true h = cc
none_where why false h = refl

not_false : (b : Bool) → not b ≡ false → b ≡ true
not_false true h = refl
not_false false h = sym h

false_not : (b : Bool) → b ≡ true → not b ≡ false
false_not true h = refl
false_not false h = sym h

and_second : (a b : Bool) → (a && b) ≡ true → b ≡ true
and_second true b h = h
and_second false b h = cc

and_both : (a b : Bool) → a ≡ true → b ≡ true → (a && b) ≡ true
and_both true b h k = k
and_both false b h k = h

-- ---- rows that count

default_speaks : (t a b r : Bool) → t ≡ true → not (a || b) ≡ false → (t && not a && r) ≡ false → (t && (a || (b && not r))) ≡ true
default_speaks false a b r h k l = h
default_speaks true true b r h k l = refl
default_speaks true false true true h k l = sym l
default_speaks true false true false h k l = refl
default_speaks true false false r h k l = sym k

default_here : (t a b r : Bool) → (t && (a || (b && not r))) ≡ true → not (a || b) ≡ false
default_here false a b r h = cc
default_here true true b r h = refl
default_here true false true r h = refl
default_here true false false r h = sym h

default_shown : (t a b r : Bool) → (t && (a || (b && not r))) ≡ true → (t && not a && r) ≡ false
default_shown false a b r h = refl
default_shown true true b r h = refl
default_shown true false true true h = sym h
default_shown true false true false h = refl
default_shown true false false true h = cc
default_shown true false false false h = refl

no_default : (t a r : Bool) → t ≡ false → (t && not a && r) ≡ false
no_default false a r h = refl
no_default true a r h = cc

speaks : (p : Purpose) (rows : List Row) (at : ℕ) (row : Row) → row.profile.purpose ≡ p → is_elsewhere p at row.connector ≡ false
    → (is_tx_default row.profile.purpose && not (row.connector == at) && is_replaced_at rows at row.profile.stack_level) ≡ false → is_candidate p rows at row ≡ true
speaks ChargePointMaxProfile rows at row e h k = and_both _ _ (ap is_charge_point_max e) (not_false _ h)
speaks TxDefaultProfile rows at row e h k =
    default_speaks (is_tx_default row.profile.purpose) (row.connector == at) (row.connector == 0) (is_replaced_at rows at row.profile.stack_level) (ap is_tx_default e) h k
speaks TxProfile rows at row e h k = and_both _ _ (ap is_tx e) (not_false _ h)

speaks_here : (p : Purpose) (rows : List Row) (at : ℕ) (row : Row) → is_candidate p rows at row ≡ true → is_elsewhere p at row.connector ≡ false
speaks_here ChargePointMaxProfile rows at row h = false_not _ (and_second (is_charge_point_max row.profile.purpose) _ h)
speaks_here TxDefaultProfile rows at row h =
    default_here (is_tx_default row.profile.purpose) (row.connector == at) (row.connector == 0) (is_replaced_at rows at row.profile.stack_level) h
speaks_here TxProfile rows at row h = false_not _ (and_second (is_tx row.profile.purpose) _ h)

speaks_shown : (p : Purpose) (rows : List Row) (at : ℕ) (row : Row) → row.profile.purpose ≡ p → is_candidate p rows at row ≡ true
    → (is_tx_default row.profile.purpose && not (row.connector == at) && is_replaced_at rows at row.profile.stack_level) ≡ false
speaks_shown ChargePointMaxProfile rows at row e h = no_default (is_tx_default row.profile.purpose) (row.connector == at) _ (ap is_tx_default e)
speaks_shown TxDefaultProfile rows at row e h =
    default_shown (is_tx_default row.profile.purpose) (row.connector == at) (row.connector == 0) (is_replaced_at rows at row.profile.stack_level) h
speaks_shown TxProfile rows at row e h = no_default (is_tx_default row.profile.purpose) (row.connector == at) _ (ap is_tx_default e)

has_it : (p : Purpose) (started : Option ℕ) → (is_tx p && not (is_some started)) ≡ false → has_its_transaction p started ≡ true
has_it ChargePointMaxProfile started h = refl
has_it TxDefaultProfile started h = refl
has_it TxProfile started h = not_false (is_some started) h

lacks_not : (p : Purpose) (started : Option ℕ) → has_its_transaction p started ≡ true → (is_tx p && not (is_some started)) ≡ false
lacks_not ChargePointMaxProfile started h = refl
lacks_not TxDefaultProfile started h = refl
lacks_not TxProfile started h = false_not (is_some started) h

row_counts : (state : PointState) (at : ℕ) (row : Row) → IsRowOf state.rows row → why_not_counted state at row ≡ None → Counts row.profile.purpose state at row
row_counts state at row stands h =
    let one = first_none (where_so OtherConnector (is_elsewhere row.profile.purpose at row.connector)) (first_of (where_so NoTransaction (lacks_transaction state at row)) (where_so Hidden (is_hidden state at row))) h in
    let two = first_none (where_so NoTransaction (lacks_transaction state at row)) (where_so Hidden (is_hidden state at row)) one.1 in
    record {
      stands = stands;
      purpose_is = refl;
      has = has_it row.profile.purpose (active_since state at) (where_none NoTransaction (lacks_transaction state at row) two.0);
      speaks = speaks row.profile.purpose state.rows at row refl (where_none OtherConnector (is_elsewhere row.profile.purpose at row.connector) one.0) (where_none Hidden (is_hidden state at row) two.1);
    }

counts_row : (state : PointState) (at : ℕ) (row : Row) → Counts row.profile.purpose state at row → why_not_counted state at row ≡ None
counts_row state at row h =
    none_first (where_so OtherConnector (is_elsewhere row.profile.purpose at row.connector)) (first_of (where_so NoTransaction (lacks_transaction state at row)) (where_so Hidden (is_hidden state at row)))
    (none_where OtherConnector (is_elsewhere row.profile.purpose at row.connector) (speaks_here row.profile.purpose state.rows at row h.speaks))
    (none_first (where_so NoTransaction (lacks_transaction state at row)) (where_so Hidden (is_hidden state at row))
    (none_where NoTransaction (lacks_transaction state at row) (lacks_not row.profile.purpose (active_since state at) h.has))
    (none_where Hidden (is_hidden state at row) (speaks_shown row.profile.purpose state.rows at row refl h.speaks)))

-- ---- limits

record HasLimit (given : Option ℕ) : Type 0 where
  limit : ℕ
  is : given ≡ Some limit

some_of : (given : Option ℕ) → is_some given ≡ true → HasLimit given
some_of None h = cc
some_of (Some limit) h = record { limit = limit; is = refl }

is_some_of : (given : Option ℕ) (limit : ℕ) → given ≡ Some limit → is_some given ≡ true
is_some_of given limit h = ap is_some h

limit_after : (row : Row) (after : Option ℕ) → why_no_limit_in row after ≡ None → HasLimit (option_and_then (rate_within row.profile) after)
limit_after row None h = cc
limit_after row (Some second) h =
    let within = is_before second row.profile.schedule.duration in
    let given = limit_in row.profile.schedule.periods second in
    let both = first_none (where_so PastDuration (not within)) (where_so BeforeFirstPeriod (not (is_some given))) h in
    let has = some_of given (not_false (is_some given) (where_none BeforeFirstPeriod (not (is_some given)) both.1)) in
    record {
      limit = has.limit;
      is = ap (λ (b : Bool). cond b given None) (not_false within (where_none PastDuration (not within) both.0)) ∙ has.is;
    }

within_of : (b : Bool) (given : Option ℕ) (limit : ℕ) → cond b given None ≡ Some limit → (b ≡ true) × (given ≡ Some limit)
within_of true given limit h = (refl, h)
within_of false given limit h = cc

after_limit : (row : Row) (after : Option ℕ) (limit : ℕ) → option_and_then (rate_within row.profile) after ≡ Some limit → why_no_limit_in row after ≡ None
after_limit row None limit h = cc
after_limit row (Some second) limit h =
    let within = is_before second row.profile.schedule.duration in
    let given = limit_in row.profile.schedule.periods second in
    let both = within_of within given limit h in
    none_first (where_so PastDuration (not within)) (where_so BeforeFirstPeriod (not (is_some given)))
    (none_where PastDuration (not within) (false_not within both.0))
    (none_where BeforeFirstPeriod (not (is_some given)) (false_not (is_some given) (is_some_of given limit both.1)))

row_has_limit : (state : PointState) (at asked instant : ℕ) (row : Row) → why_no_limit state at asked instant row ≡ None
    → HasLimit (rate row.profile (base row (active_since state at) asked) instant)
row_has_limit state at asked instant row h =
    let from = is_from row.profile.valid_from instant in
    let before = is_before instant row.profile.valid_to in
    let after = offset row.profile (base row (active_since state at) asked) instant in
    let one = first_none (where_so NotYetValid (not from)) (first_of (where_so NoLongerValid (not before)) (why_no_limit_in row after)) h in
    let two = first_none (where_so NoLongerValid (not before)) (why_no_limit_in row after) one.1 in
    let has = limit_after row after two.1 in
    let valid : (from && before) ≡ true = and_both from before (not_false from (where_none NotYetValid (not from) one.0)) (not_false before (where_none NoLongerValid (not before) two.0)) in
    record { limit = has.limit; is = ap (λ (b : Bool). cond b (option_and_then (rate_within row.profile) after) None) valid ∙ has.is }

has_limit_row : (state : PointState) (at asked instant : ℕ) (row : Row) (limit : ℕ) → rate row.profile (base row (active_since state at) asked) instant ≡ Some limit
    → why_no_limit state at asked instant row ≡ None
has_limit_row state at asked instant row limit h =
    let from = is_from row.profile.valid_from instant in
    let before = is_before instant row.profile.valid_to in
    let after = offset row.profile (base row (active_since state at) asked) instant in
    let both = within_of (from && before) (option_and_then (rate_within row.profile) after) limit h in
    none_first (where_so NotYetValid (not from)) (first_of (where_so NoLongerValid (not before)) (why_no_limit_in row after))
    (none_where NotYetValid (not from) (false_not from (and_first from before both.0)))
    (none_first (where_so NoLongerValid (not before)) (why_no_limit_in row after)
    (none_where NoLongerValid (not before) (false_not before (and_second from before both.0)))
    (after_limit row after limit both.1))

limit_of_given : (row : Row) (limit : Option ℕ) (best : RowLimit) → option_map (with_limit row) limit ≡ Some best → HasLimit limit
limit_of_given row None best h = cc
limit_of_given row (Some limit) best h = record { limit = limit; is = refl }

-- ---- elements of a list

abbrev Among : {X : Type 0} → X → List X → Type 0
Among x [] = ⊥
Among x (y ∷ ys) = (x ≡ y) ⊎ Among x ys

among_given : {X Y : Type 0} (give : X → Option Y) (xs : List X) (x : X) (y : Y) → give x ≡ Some y → Among x xs → Among y (filter_map give xs)
among_given give [] x y h k = k
among_given {X = X} {Y = Y} give (z ∷ xs) x y h (inl same) = go (give z) (ap give (sym same) ∙ h)
  where
    go : (given : Option Y) → given ≡ Some y → Among y (cons_option given (filter_map give xs))
    go None e = cc
    go (Some w) e = inl (some_is (λ (v : Y). v ≡ w) w y refl e)
among_given {X = X} {Y = Y} give (z ∷ xs) x y h (inr later) = go (give z) (among_given give xs x y h later)
  where
    go : (given : Option Y) → Among y (filter_map give xs) → Among y (cons_option given (filter_map give xs))
    go None k = k
    go (Some w) k = inr k

among_passing : {X : Type 0} (test : X → Bool) (xs : List X) (x : X) → test x ≡ true → Among x xs → Among x (filter test xs)
among_passing test [] x h k = k
among_passing {X = X} test (z ∷ xs) x h (inl same) = go (test z) (ap test (sym same) ∙ h)
  where
    go : (b : Bool) → b ≡ true → Among x (cond b (z ∷ filter test xs) (filter test xs))
    go true e = inl same
    go false e = cc
among_passing {X = X} test (z ∷ xs) x h (inr later) = go (test z) (among_passing test xs x h later)
  where
    go : (b : Bool) → Among x (filter test xs) → Among x (cond b (z ∷ filter test xs) (filter test xs))
    go true k = inr k
    go false k = k

among_here : (before after : List Row) (row : Row) → Among row (before ++ row ∷ after)
among_here [] after row = inl refl
among_here (first ∷ before) after row = inr (among_here before after row)

among_rows : (rows : List Row) (row : Row) → IsRowOf rows row → Among row rows
among_rows rows row h = subst (Among row) (sym h.is) (among_here h.before h.after row)

any_among : {X : Type 0} (test : X → Bool) (xs : List X) (x : X) → test x ≡ true → Among x xs → list_any test xs ≡ true
any_among test [] x h k = absurd k
any_among test (z ∷ xs) x h (inl same) = go (test z) (ap test (sym same) ∙ h)
  where
    go : (b : Bool) → b ≡ true → (b || list_any test xs) ≡ true
    go true e = refl
    go false e = cc
any_among test (z ∷ xs) x h (inr later) = go (test z) (any_among test xs x h later)
  where
    go : (b : Bool) → list_any test xs ≡ true → (b || list_any test xs) ≡ true
    go true k = refl
    go false k = k

-- the greatest is at least each element
record Above {X : Type 0} (key : X → ℕ) (xs : List X) (x : X) : Type 0 where
  best : X
  is : greatest key xs ≡ Some best
  above : key x ≤ key best

greater_above : {X : Type 0} (key : X → ℕ) (x : X) (other : Option X) → key x ≤ key (greater key x other)
greater_above key x None = omega arith
greater_above {X = X} key x (Some y) = go (nat_lt (key x) (key y)) refl
  where
    go : (b : Bool) → nat_lt (key x) (key y) ≡ b → key x ≤ key (cond b y x)
    go true less = grind (arith, nat_tests)
    go false not_less = omega arith

greater_below : {X : Type 0} (key : X → ℕ) (x y : X) → key y ≤ key (greater key x (Some y))
greater_below {X = X} key x y = go (nat_lt (key x) (key y)) refl
  where
    go : (b : Bool) → nat_lt (key x) (key y) ≡ b → key y ≤ key (cond b y x)
    go true less = omega arith
    go false not_less = grind (arith, nat_tests)

greatest_above : {X : Type 0} (key : X → ℕ) (xs : List X) (x : X) → Among x xs → Above key xs x
greatest_above key [] x h = absurd h
greatest_above key (y ∷ ys) x (inl same) = record {
  best = greater key y (greatest key ys);
  is = refl;
  above = let at : key x ≡ key y = ap key same in let above = greater_above key y (greatest key ys) in omega (arith, at, above);
}
greatest_above key (y ∷ ys) x (inr later) =
    let rest = greatest_above key ys x later in
    record {
      best = greater key y (Some rest.best);
      is = ap (λ best. Some (greater key y best)) rest.is;
      above = let below = rest.above in let above = greater_below key y rest.best in omega (arith, below, above);
    }

row_above : (purpose : Purpose) (state : PointState) (at asked instant : ℕ) (row : Row) (limit : ℕ) → Counts purpose state at row
    → rate row.profile (base row (active_since state at) asked) instant ≡ Some limit
    → Above level_of (filter_map (row_limit state at asked instant) (counted purpose state at)) (with_limit row limit)
row_above purpose state at asked instant row limit h has =
    greatest_above level_of (filter_map (row_limit state at asked instant) (counted purpose state at)) (with_limit row limit)
    (among_given (row_limit state at asked instant) (counted purpose state at) row (with_limit row limit) (ap (option_map (with_limit row)) has)
    (subst (λ (b : Bool). Among row (cond b (filter (is_candidate purpose state.rows at) state.rows) [])) (sym h.has)
    (among_passing (is_candidate purpose state.rows at) state.rows row h.speaks (among_rows state.rows row h.stands))))

-- ---- keys

equal_is : (m n : ℕ) → (m == n) ≡ true → m ≡ n
equal_is m n h = grind (arith, nat_tests)

default_from : (a b r : Bool) → (a || (b && not r)) ≡ true → (a ≡ true) ⊎ ((b ≡ true) × (r ≡ false))
default_from true b r h = inl refl
default_from false true true h = cc
default_from false true false h = inr (refl, refl)
default_from false false r h = cc

replaced : (rows : List Row) (at : ℕ) (row : Row) → IsRowOf rows row → row.profile.purpose ≡ TxDefaultProfile → (row.connector == at) ≡ true → is_replaced_at rows at row.profile.stack_level ≡ true
replaced rows at row stands purpose here =
    any_among (λ (other : Row). is_tx_default other.profile.purpose && (other.connector == at) && (other.profile.stack_level == row.profile.stack_level)) rows row
    (three (is_tx_default row.profile.purpose) (row.connector == at) (row.profile.stack_level == row.profile.stack_level) (ap is_tx_default purpose) here (grind (arith, nat_tests)))
    (among_rows rows row stands)
  where
    three : (a b c : Bool) → a ≡ true → b ≡ true → c ≡ true → (a && b && c) ≡ true
    three true true true h k l = refl
    three true true false h k l = l
    three true false c h k l = cc
    three false b c h k l = cc

same_connector : (purpose : Purpose) (state : PointState) (at : ℕ) (one other : Row) → Counts purpose state at one → Counts purpose state at other
    → one.profile.stack_level ≡ other.profile.stack_level → one.connector ≡ other.connector
same_connector ChargePointMaxProfile state at one other h k level =
    equal_is one.connector 0 (and_second (is_charge_point_max one.profile.purpose) (one.connector == 0) h.speaks)
    ∙ sym (equal_is other.connector 0 (and_second (is_charge_point_max other.profile.purpose) (other.connector == 0) k.speaks))
same_connector TxProfile state at one other h k level =
    equal_is one.connector at (and_second (is_tx one.profile.purpose) (one.connector == at) h.speaks)
    ∙ sym (equal_is other.connector at (and_second (is_tx other.profile.purpose) (other.connector == at) k.speaks))
same_connector TxDefaultProfile state at one other h k level =
    go
    (default_from (one.connector == at) (one.connector == 0) (is_replaced_at state.rows at one.profile.stack_level) (and_second (is_tx_default one.profile.purpose) _ h.speaks))
    (default_from (other.connector == at) (other.connector == 0) (is_replaced_at state.rows at other.profile.stack_level) (and_second (is_tx_default other.profile.purpose) _ k.speaks))
  where
    go : (((one.connector == at) ≡ true) ⊎ (((one.connector == 0) ≡ true) × (is_replaced_at state.rows at one.profile.stack_level ≡ false)))
        → (((other.connector == at) ≡ true) ⊎ (((other.connector == 0) ≡ true) × (is_replaced_at state.rows at other.profile.stack_level ≡ false)))
        → one.connector ≡ other.connector
    go (inl here) (inl there) = equal_is one.connector at here ∙ sym (equal_is other.connector at there)
    go (inl here) (inr there) =
        let yes : is_replaced_at state.rows at one.profile.stack_level ≡ true = replaced state.rows at one h.stands h.purpose_is here in
        let no : is_replaced_at state.rows at one.profile.stack_level ≡ false = ap (is_replaced_at state.rows at) level ∙ there.1 in
        cc
    go (inr here) (inl there) =
        let yes : is_replaced_at state.rows at other.profile.stack_level ≡ true = replaced state.rows at other k.stands k.purpose_is there in
        let no : is_replaced_at state.rows at other.profile.stack_level ≡ false = ap (is_replaced_at state.rows at) (sym level) ∙ here.1 in
        cc
    go (inr here) (inr there) = equal_is one.connector 0 here.0 ∙ sym (equal_is other.connector 0 there.0)

-- ---- the law

above_of : (level : ℕ) (given : Option RowLimit) (best : RowLimit) → given ≡ Some best → is_above level given ≡ nat_lt level (level_of best)
above_of level given best h = ap (is_above level) h

only : (state : PointState) (at asked instant : ℕ) (row : Row) (limit : ℕ) → HaveOwnKeys state.rows → Counts row.profile.purpose state at row
    → rate row.profile (base row (active_since state at) asked) instant ≡ Some limit
    → is_above row.profile.stack_level (prevailing_row row.profile.purpose state at asked instant) ≡ false
    → prevailing_row row.profile.purpose state at asked instant ≡ Some (with_limit row limit)
only state at asked instant row limit keys counts has not_above =
    let above = row_above row.profile.purpose state at asked instant row limit counts has in
    let of = prevailing_of row.profile.purpose state at asked instant above.best above.is in
    let no_less = above.above in
    let no_more : nat_lt row.profile.stack_level (level_of above.best) ≡ false = sym (above_of row.profile.stack_level _ above.best above.is) ∙ not_above in
    let level : above.best.row.profile.stack_level ≡ row.profile.stack_level = grind (arith, nat_tests) in
    let same : above.best.row ≡ row = keys.same above.best.row row of.counts.stands counts.stands
    (same_connector row.profile.purpose state at above.best.row row of.counts counts level) of.counts.purpose_is level in
    let given : Some above.best ≡ Some (with_limit row limit) =
    sym of.limit ∙ (ap (row_limit state at asked instant) same ∙ ap (option_map (with_limit row)) has) in
    above.is ∙ given

behind_none : (given : Option RowLimit) → is_some given ≡ false → given ≡ None
behind_none None h = refl
behind_none (Some best) h = cc

prevails : (state : PointState) (connector asked instant : ℕ) (row : Row) → HaveOwnKeys state.rows → IsRowOf state.rows row
    → why_not state connector asked instant row ≡ None → Prevails state connector asked instant row
prevails state connector asked instant row keys stands h =
    let p = row.profile.purpose in
    let at = counts_for p connector in
    let one = first_none (why_not_counted state at row) (first_of (why_no_limit state at asked instant row) (why_behind state at asked instant row)) h in
    let two = first_none (why_no_limit state at asked instant row) (why_behind state at asked instant row) one.1 in
    let above = is_above row.profile.stack_level (prevailing_row p state at asked instant) in
    let behind = is_tx_default p && is_some (prevailing_row TxProfile state at asked instant) in
    let three = first_none (where_so BelowHigherLevel above) (where_so BehindTxProfile behind) two.1 in
    let has = row_has_limit state at asked instant row two.0 in
    record {
      limit = has.limit;
      of_purpose = only state at asked instant row has.limit keys (row_counts state at row stands one.0) has.is (where_none BelowHigherLevel above three.0);
      no_transaction = λ default.
          let not_behind : behind ≡ false = where_none BehindTxProfile behind three.1 in
          let some_not : is_some (prevailing_row TxProfile state at asked instant) ≡ false =
          ap (λ (b : Bool). b && is_some (prevailing_row TxProfile state at asked instant)) (sym (ap is_tx_default default)) ∙ not_behind in
          let here : at ≡ connector = ap (λ (p : Purpose). counts_for p connector) default in
          ap (λ (n : ℕ). prevailing_row TxProfile state n asked instant) (sym here) ∙ behind_none (prevailing_row TxProfile state at asked instant) some_not;
    }

not_behind_is : (p : Purpose) (state : PointState) (connector asked instant : ℕ) → (p ≡ TxDefaultProfile → prevailing_row TxProfile state connector asked instant ≡ None)
    → (is_tx_default p && is_some (prevailing_row TxProfile state (counts_for p connector) asked instant)) ≡ false
not_behind_is ChargePointMaxProfile state connector asked instant h = refl
not_behind_is TxDefaultProfile state connector asked instant h = ap is_some (h refl)
not_behind_is TxProfile state connector asked instant h = refl

no_reason : (state : PointState) (connector asked instant : ℕ) (row : Row) → Prevails state connector asked instant row → why_not state connector asked instant row ≡ None
no_reason state connector asked instant row h =
    let p = row.profile.purpose in
    let at = counts_for p connector in
    let of = prevailing_of p state at asked instant (with_limit row h.limit) h.of_purpose in
    let has = limit_of_given row (rate row.profile (base row (active_since state at) asked) instant) (with_limit row h.limit) of.limit in
    let above = is_above row.profile.stack_level (prevailing_row p state at asked instant) in
    let behind = is_tx_default p && is_some (prevailing_row TxProfile state at asked instant) in
    let not_above : above ≡ false = above_of row.profile.stack_level (prevailing_row p state at asked instant) (with_limit row h.limit) h.of_purpose ∙ grind (arith, nat_tests) in
    none_first (why_not_counted state at row) (first_of (why_no_limit state at asked instant row) (why_behind state at asked instant row))
    (counts_row state at row of.counts)
    (none_first (why_no_limit state at asked instant row) (why_behind state at asked instant row)
    (has_limit_row state at asked instant row has.limit has.is)
    (none_first (where_so BelowHigherLevel above) (where_so BehindTxProfile behind)
    (none_where BelowHigherLevel above not_above)
    (none_where BehindTxProfile behind (not_behind_is p state connector asked instant h.no_transaction))))

pub why_not_none : (state : PointState) (connector asked instant : ℕ) (row : Row) → HaveOwnKeys state.rows → IsRowOf state.rows row
    → (why_not state connector asked instant row ≡ None) ↔ Prevails state connector asked instant row
why_not_none state connector asked instant row keys stands = (prevails state connector asked instant row keys stands, no_reason state connector asked instant row)
