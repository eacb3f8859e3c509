-- The bounds gathered at the start of a request are those of a sweep at that start.
use Rattle.std.proofs.Common.{◌≡◌, ℕ, ◌<◌, ◌≤◌, ◌^◌, ◌==◌, zero, suc, Bool, true, false, List, [], ◌∷◌, ◌++◌, length, map, filter, cond, ◌||◌, Some, None, is_some, ⊎_elim, refl, ap, sym, subst, ◌∙◌, arith}
use Rattle.std.specs.List.{AllByRecursion, AllZip, Contains, list_any, range_with_len}
use Rattle.std.proofs.lemmas.Bool.{cases_lt}
use Rattle.std.proofs.lemmas.List.{map-append}
use Rattle.std.proofs.lemmas.List.FromFn.{length-range_with_len}
use Rattle.profile.specs.declared.purpose.Purpose.TheVariants.{ChargePointMaxProfile, TxDefaultProfile, TxProfile}
use Rattle.profile.specs.declared.row.Row.{Row}
use Rattle.recurrence.specs.declared.place.Place.{Place}
use Rattle.recurrence.specs.Theory.Places.{next_of}
use Rattle.meaning.specs.View.{PointState, active_since}
use Rattle.meaning.specs.Prevailing.{counted}
use Rattle.meaning.specs.Limit.{active_connectors}
use Rattle.sweep_compiler.specs.Places.{is_place_of, is_place_for, is_place_at, looked_at, is_place_asked}
use Rattle.sweep_compiler.specs.ByCases.Seen.{seen_from}
use Rattle.sweep_compiler.specs.ByCases.Running.{Running, RunningBound, seen_running, running_from, places_left, due, first_due, due_at}
use Rattle.sweep_compiler.specs.ByCases.Queue.{Due}
use Rattle.sweep_compiler.specs.ByCases.Swept.{IsConnectorBound, AreBounds, EachRow, row_count, due_in, shared_now, IsPassedUpTo, IsSwept, IsConnectorAtStart, AreConnectorsAtStart, AreAtStart, AreWaiting}
use Rattle.sweep_compiler.proofs.GatheredRuns.{all_sorted}
use Rattle.sweep_compiler.proofs.Starting.{due_past, some_not_none, same_instant}

-- ---- bounds

seen_mapped : (state : PointState) (connector asked last : ℕ) (rows : List Row) → map seen_running (map (running_from state connector asked last) rows) ≡ map (seen_from state connector asked) rows
seen_mapped state connector asked last [] = refl
seen_mapped state connector asked last (row ∷ rows) = ap (λ seen. seen_from state connector asked row ∷ seen) (seen_mapped state connector asked last rows)

both_runs : (state : PointState) (connector asked last : ℕ) (bound : RunningBound) (is : IsConnectorAtStart state asked last connector bound)
    → bound.runs ≡ map (running_from state connector asked last) (is.own_are.rows ++ is.default_are.rows)
both_runs state connector asked last bound is =
    is.runs_are
    ∙ (ap (λ (own : List Running). own ++ is.default) is.own_are.runs_are
    ∙ (ap (λ (default : List Running). map (running_from state connector asked last) is.own_are.rows ++ default) is.default_are.runs_are
    ∙ sym (map-append (running_from state connector asked last) is.own_are.rows is.default_are.rows)))

connectors_bound : (state : PointState) (asked last : ℕ) (looked : List ℕ) (bounds : List RunningBound) → AreConnectorsAtStart state asked last looked bounds
    → AllZip (λ connector bound. IsConnectorBound state asked connector bound) looked bounds
connectors_bound state asked last [] [] are = tt
connectors_bound state asked last [] (bound ∷ bounds) are = absurd are
connectors_bound state asked last (connector ∷ looked) [] are = absurd are
connectors_bound state asked last (connector ∷ looked) (bound ∷ bounds) are = (
  record {
    own = are.0.own_are.rows;
    default = are.0.default_are.rows;
    number = are.0.number;
    ceiling = are.0.ceiling;
    own_is = are.0.own_are.rows_are;
    default_is = are.0.default_are.rows_are;
    runs = ap (map seen_running) (both_runs state connector asked last bound are.0) ∙ seen_mapped state connector asked last (are.0.own_are.rows ++ are.0.default_are.rows);
  },
  connectors_bound state asked last looked bounds are.1,
)

bounds_at_start : (state : PointState) (connector asked last : ℕ) (bounds : List RunningBound) → AreAtStart state connector asked last bounds → AreBounds state connector asked bounds
bounds_at_start state connector asked last [] are = absurd are
bounds_at_start state connector asked last (point ∷ others) are = (
  record {
    most = are.0.most.rows;
    ceiling = are.0.ceiling;
    most_is = are.0.most.rows_are;
    runs = ap (map seen_running) are.0.most.runs_are ∙ seen_mapped state 0 asked last are.0.most.rows;
  },
  connectors_bound state asked last (looked_at state connector) others are.1,
)

others_small : (state : PointState) (asked last : ℕ) (looked : List ℕ) (bounds : List RunningBound) → AreConnectorsAtStart state asked last looked bounds → AllByRecursion (λ (bound : RunningBound). bound.ceiling < 2 ^ 32) bounds
others_small state asked last [] [] are = tt
others_small state asked last [] (bound ∷ bounds) are = absurd are
others_small state asked last (connector ∷ looked) [] are = tt
others_small state asked last (connector ∷ looked) (bound ∷ bounds) are = (are.0.small, others_small state asked last looked bounds are.1)

pub all_small : (state : PointState) (connector asked last : ℕ) (bounds : List RunningBound) → AreAtStart state connector asked last bounds → AllByRecursion (λ (bound : RunningBound). bound.ceiling < 2 ^ 32) bounds
all_small state connector asked last [] are = tt
all_small state connector asked last (point ∷ others) are = (are.0.small, others_small state asked last (looked_at state connector) others are.1)

zip_length : (state : PointState) (asked last : ℕ) (looked : List ℕ) (bounds : List RunningBound) → AreConnectorsAtStart state asked last looked bounds → length bounds ≡ length looked
zip_length state asked last [] [] are = refl
zip_length state asked last [] (bound ∷ bounds) are = absurd are
zip_length state asked last (connector ∷ looked) [] are = absurd are
zip_length state asked last (connector ∷ looked) (bound ∷ bounds) are = ap suc (zip_length state asked last looked bounds are.1)

filter_length : (test : ℕ → Bool) (xs : List ℕ) → length (filter test xs) ≤ length xs
filter_length test [] = omega arith
filter_length test (x ∷ xs) = go (test x) (filter_length test xs)
  where
    go : (b : Bool) → length (filter test xs) ≤ length xs → length (cond b (x ∷ filter test xs) (filter test xs)) ≤ length (x ∷ xs)
    go true less = omega (arith, less)
    go false less = omega (arith, less)

looked_few : (state : PointState) (connector : ℕ) → length state.ceilings < 2 ^ 32 → length (looked_at state connector) < 2 ^ 32
looked_few state connector few = go (connector == 0)
  where
    go : (b : Bool) → length (cond b (active_connectors state) (connector ∷ [])) < 2 ^ 32
    go true =
        let less = filter_length (λ connector. is_some (active_since state connector)) (range_with_len 1 (length state.ceilings)) in
        let same = length-range_with_len 1 (length state.ceilings) in
        omega (arith, few, less, same)
    go false = omega arith

pub all_few : (state : PointState) (connector asked last : ℕ) (bounds : List RunningBound) → AreAtStart state connector asked last bounds → length state.ceilings < 2 ^ 32 → length bounds ≤ 2 ^ 32
all_few state connector asked last [] are few = omega arith
all_few state connector asked last (point ∷ others) are few =
    let same = zip_length state asked last (looked_at state connector) others are.1 in
    let less = looked_few state connector few in
    omega (arith, same, less)

-- ---- the rows that apply to the request

or-first : (a b : Bool) → a ≡ true → (a || b) ≡ true
or-first true b h = refl
or-first false b h = cc

or-second : (a b : Bool) → b ≡ true → (a || b) ≡ true
or-second true b h = refl
or-second false b h = h

any_each : {X : Type 0} (test : ℕ → X → Bool) (xs : List X) → AllByRecursion (λ x. (i : ℕ) → test i x ≡ true → list_any (test i) xs ≡ true) xs
any_each test [] = tt
any_each {X = X} test (x ∷ xs) = (λ i is. or-first (test i x) (list_any (test i) xs) is, more xs (any_each test xs))
  where
    more : (ys : List X) → AllByRecursion (λ y. (i : ℕ) → test i y ≡ true → list_any (test i) xs ≡ true) ys → AllByRecursion (λ y. (i : ℕ) → test i y ≡ true → list_any (test i) (x ∷ xs) ≡ true) ys
    more [] all = tt
    more (y ∷ ys) all = (λ i is. or-second (test i x) (list_any (test i) xs) (all.0 i is), more ys all.1)

abbrev SpeaksAt : PointState → ℕ → ℕ → ℕ → Row → Type 0
SpeaksAt state connector asked looked row = (i : ℕ) → is_place_of state looked asked i row ≡ true → is_place_asked state connector asked i ≡ true

each_speaks : (P Q : Row → Type 0) → ((row : Row) → P row → Q row) → (rows : List Row) → AllByRecursion P rows → AllByRecursion Q rows
each_speaks P Q so [] all = tt
each_speaks P Q so (row ∷ rows) all = (so row all.0, each_speaks P Q so rows all.1)

most_speak : (state : PointState) (connector asked : ℕ) → AllByRecursion (SpeaksAt state connector asked 0) (counted ChargePointMaxProfile state 0)
most_speak state connector asked =
    each_speaks _ (SpeaksAt state connector asked 0) (λ row h i is. or-first (is_place_for ChargePointMaxProfile state 0 asked i) _ (h i is)) _
    (any_each (λ i row. is_place_of state 0 asked i row) (counted ChargePointMaxProfile state 0))

abbrev LooksAt : PointState → ℕ → ℕ → ℕ → Type 0
LooksAt state connector asked looked = (i : ℕ) → is_place_at state looked asked i ≡ true → is_place_asked state connector asked i ≡ true

own_speak : (state : PointState) (connector asked looked : ℕ) → LooksAt state connector asked looked → AllByRecursion (SpeaksAt state connector asked looked) (counted TxProfile state looked)
own_speak state connector asked looked at =
    each_speaks _ (SpeaksAt state connector asked looked) (λ row h i is. at i (or-first (is_place_for TxProfile state looked asked i) (is_place_for TxDefaultProfile state looked asked i) (h i is))) _
    (any_each (λ i row. is_place_of state looked asked i row) (counted TxProfile state looked))

default_speak : (state : PointState) (connector asked looked : ℕ) → LooksAt state connector asked looked → AllByRecursion (SpeaksAt state connector asked looked) (counted TxDefaultProfile state looked)
default_speak state connector asked looked at =
    each_speaks _ (SpeaksAt state connector asked looked) (λ row h i is. at i (or-second (is_place_for TxProfile state looked asked i) (is_place_for TxDefaultProfile state looked asked i) (h i is))) _
    (any_each (λ i row. is_place_of state looked asked i row) (counted TxDefaultProfile state looked))

-- ---- rows at the start

record IsStartRow (state : PointState) (connector asked last : ℕ) (run : Running) : Type 0 where
  since : run.since ≡ asked
  passed : IsPassedUpTo state connector asked last asked run

rows_start : (state : PointState) (connector asked last looked : ℕ) (rows : List Row) → AllByRecursion (SpeaksAt state connector asked looked) rows
    → AllByRecursion (IsStartRow state connector asked last) (map (running_from state looked asked last) rows)
rows_start state connector asked last looked [] all = tt
rows_start state connector asked last looked (row ∷ rows) all =
    (record { since = refl; passed = record { since = omega arith; last_is = refl; speaks = all.0 } }, rows_start state connector asked last looked rows all.1)

append_all : (P : Row → Type 0) (xs ys : List Row) → AllByRecursion P xs → AllByRecursion P ys → AllByRecursion P (xs ++ ys)
append_all P [] ys all rest = rest
append_all P (x ∷ xs) ys all rest = (all.0, append_all P xs ys all.1 rest)

others_start : (state : PointState) (connector asked last : ℕ) (looked : List ℕ) (bounds : List RunningBound) → AllByRecursion (LooksAt state connector asked) looked → AreConnectorsAtStart state asked last looked bounds
    → EachRow (IsStartRow state connector asked last) bounds
others_start state connector asked last [] [] at are = tt
others_start state connector asked last [] (bound ∷ bounds) at are = absurd are
others_start state connector asked last (one ∷ looked) [] at are = absurd are
others_start state connector asked last (one ∷ looked) (bound ∷ bounds) at are =
    let is = are.0 in (
      subst (AllByRecursion (IsStartRow state connector asked last)) (sym (both_runs state one asked last bound is))
          (rows_start state connector asked last one (is.own_are.rows ++ is.default_are.rows)
          (append_all (SpeaksAt state connector asked one) is.own_are.rows is.default_are.rows
          (all_sorted (SpeaksAt state connector asked one) _ is.own_are.rows is.own_are.rows_are (own_speak state connector asked one at.0))
          (all_sorted (SpeaksAt state connector asked one) _ is.default_are.rows is.default_are.rows_are (default_speak state connector asked one at.0)))),
      others_start state connector asked last looked bounds at.1 are.1,
    )

each_looks : (P Q : ℕ → Type 0) → ((x : ℕ) → P x → Q x) → (xs : List ℕ) → AllByRecursion P xs → AllByRecursion Q xs
each_looks P Q so [] all = tt
each_looks P Q so (x ∷ xs) all = (so x all.0, each_looks P Q so xs all.1)

all_look : (state : PointState) (connector asked : ℕ) → AllByRecursion (LooksAt state connector asked) (looked_at state connector)
all_look state connector asked =
    each_looks _ (LooksAt state connector asked) (λ looked h i is. or-second (is_place_for ChargePointMaxProfile state 0 asked i) _ (h i is)) (looked_at state connector)
    (any_each (λ i looked. is_place_at state looked asked i) (looked_at state connector))

all_start : (state : PointState) (connector asked last : ℕ) (bounds : List RunningBound) → AreAtStart state connector asked last bounds → EachRow (IsStartRow state connector asked last) bounds
all_start state connector asked last [] are = tt
all_start state connector asked last (point ∷ others) are = (
  subst (AllByRecursion (IsStartRow state connector asked last)) (sym are.0.most.runs_are)
      (rows_start state connector asked last 0 are.0.most.rows (all_sorted (SpeaksAt state connector asked 0) _ are.0.most.rows are.0.most.rows_are (most_speak state connector asked))),
  others_start state connector asked last (looked_at state connector) others (all_look state connector asked) are.1,
)

-- ---- later places

record IsComing (state : PointState) (connector asked last next : ℕ) : Type 0 where
  later : asked < next
  within : next ≤ last
  place : is_place_asked state connector asked next ≡ true

coming_run : (state : PointState) (connector asked last next : ℕ) (run : Running) → IsStartRow state connector asked last run → due run ≡ Some next → IsComing state connector asked last next
coming_run state connector asked last next run start is = go (places_left run) refl is
  where
    go : (left : List Place) → places_left run ≡ left → first_due (places_left run) ≡ Some next → IsComing state connector asked last next
    go [] left is = absurd (some_not_none next (sym (ap first_due left) ∙ is))
    go (place ∷ others) left is =
        let facts = next_of run.row.profile run.base run.since run.last place others left in
        let same : place.instant ≡ next = same_instant place.instant next (sym (ap first_due left) ∙ is) in
        let past = facts.later in
        let upto = facts.within in
        let since = start.since in
        let end = start.passed.last_is in
        record {
          later = omega (arith, past, since, same);
          within = omega (arith, upto, end, same);
          place = subst (λ (n : ℕ). is_place_asked state connector asked n ≡ true) same (start.passed.speaks place.instant facts.is_place);
        }

coming_runs : (state : PointState) (connector asked last next row : ℕ) (runs : List Running) → AllByRecursion (IsStartRow state connector asked last) runs → due_at runs row ≡ Some next → IsComing state connector asked last next
coming_runs state connector asked last next row [] all is = absurd (some_not_none next is)
coming_runs state connector asked last next zero (run ∷ later) all is = coming_run state connector asked last next run all.0 is
coming_runs state connector asked last next (suc row) (run ∷ later) all is = coming_runs state connector asked last next row later all.1 is

coming : (state : PointState) (connector asked last next n row : ℕ) (bounds : List RunningBound) → EachRow (IsStartRow state connector asked last) bounds → due_in bounds n row ≡ Some next → IsComing state connector asked last next
coming state connector asked last next n row [] all is = absurd (some_not_none next is)
coming state connector asked last next zero row (bound ∷ others) all is = coming_runs state connector asked last next row bound.runs all.0 is
coming state connector asked last next (suc n) row (bound ∷ others) all is = coming state connector asked last next n row others all.1 is

has_row : (bounds : List RunningBound) (n row next : ℕ) → due_in bounds n row ≡ Some next → row < row_count bounds n
has_row bounds n row next is = ⊎_elim (λ less. less) (λ past. absurd (some_not_none next (sym (due_past bounds n row past) ∙ is))) (cases_lt row (row_count bounds n))

past_bounds : (bounds : List RunningBound) (n row : ℕ) → length bounds ≤ n → due_in bounds n row ≡ None
past_bounds [] n row past = refl
past_bounds (bound ∷ others) zero row past = absurd (omega (arith, past))
past_bounds (bound ∷ others) (suc n) row past = past_bounds others n row (omega (arith, past))

passed_runs : (state : PointState) (connector asked last : ℕ) (runs : List Running) → AllByRecursion (IsStartRow state connector asked last) runs → AllByRecursion (IsPassedUpTo state connector asked last asked) runs
passed_runs state connector asked last [] all = tt
passed_runs state connector asked last (run ∷ later) all = (all.0.passed, passed_runs state connector asked last later all.1)

passed_all : (state : PointState) (connector asked last : ℕ) (bounds : List RunningBound) → EachRow (IsStartRow state connector asked last) bounds → EachRow (IsPassedUpTo state connector asked last asked) bounds
passed_all state connector asked last [] all = tt
passed_all state connector asked last (bound ∷ others) all = (passed_runs state connector asked last bound.runs all.0, passed_all state connector asked last others all.1)

pub swept_at_start : (state : PointState) (connector asked last : ℕ) (bounds : List RunningBound) (items : List Due) (sum : ℕ) → AreAtStart state connector asked last bounds → length state.ceilings < 2 ^ 32
    → sum ≡ shared_now bounds → AreWaiting bounds (length bounds) 0 items → IsSwept state connector asked last asked bounds items sum
swept_at_start state connector asked last bounds items sum are few sum_is waiting = record {
  gathered = bounds_at_start state connector asked last bounds are;
  small = all_small state connector asked last bounds are;
  few = all_few state connector asked last bounds are few;
  sum_is = sum_is;
  from = omega arith;
  passed = passed_all state connector asked last bounds start;
  waits = λ n row instant is. ⊎_elim
      (λ (inside : n < length bounds). waiting.before n row instant inside is)
      (λ (past : length bounds ≤ n). absurd (some_not_none instant (sym (past_bounds bounds n row past) ∙ is)))
      (cases_lt n (length bounds));
  each = λ one has.
      let is = waiting.each one has in
      let facts = coming state connector asked last one.instant one.bound one.row bounds start is in
      record {
        later = let past = facts.later in omega (arith, past);
        within = facts.within;
        place = facts.place;
        has_row = has_row bounds one.bound one.row one.instant is;
      };
}
  where
    start : EachRow (IsStartRow state connector asked last) bounds
    start = all_start state connector asked last bounds are

pub ahead_at_start : (state : PointState) (connector asked last : ℕ) (bounds : List RunningBound) (items : List Due) → AreAtStart state connector asked last bounds
    → AreWaiting bounds (length bounds) 0 items → (one : Due) → Contains items one → asked < one.instant
ahead_at_start state connector asked last bounds items are waiting one has =
    (coming state connector asked last one.instant one.bound one.row bounds (all_start state connector asked last bounds are) (waiting.each one has)).later
