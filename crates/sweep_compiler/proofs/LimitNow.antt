-- The limits in force of a request's bounds give its limit, from the sweep's instant up to the next
-- place.
use Rattle.std.proofs.Common.{◌≡◌, ℕ, ◌+◌, ◌<◌, ◌≤◌, ◌==◌, suc, Bool, true, false, cond, List, [], ◌∷◌, ◌++◌, map, min, get_or, Option, None, Some, refl, ap, sym, ◌∙◌, arith}
use Rattle.std.specs.List.{AllByRecursion, AllZip, Contains, sum_by}
use Rattle.std.proofs.lemmas.List.{map-append}
use Rattle.std.proofs.lemmas.List.Sums.{sum_by-cons}
use Rattle.profile.specs.declared.purpose.Purpose.TheVariants.{ChargePointMaxProfile, TxDefaultProfile, TxProfile}
use Rattle.profile.specs.declared.row.Row.{Row}
use Rattle.profile.specs.ChargingProfile.{rate}
use Rattle.recurrence.specs.declared.place.Place.{Place}
use Rattle.recurrence.specs.Theory.Places.{next_of, stays_on}
use Rattle.meaning.specs.View.{PointState}
use Rattle.meaning.specs.Prevailing.{prevailing}
use Rattle.meaning.specs.Limit.{or_else, at_most, own_limit, active_connectors, limit, limit_by}
use Rattle.sweep_compiler.specs.Places.{looked_at}
use Rattle.sweep_compiler.specs.ByCases.Seen.{SeenRow, limit_seen, first_limit, seen_from}
use Rattle.sweep_compiler.specs.ByCases.Running.{Running, RunningBound, seen_running, rate_running, places_left, due, first_due, due_at, first_rate, bound_now}
use Rattle.sweep_compiler.specs.ByCases.Queue.{Due}
use Rattle.sweep_compiler.specs.ByCases.Swept.{IsConnectorBound, IsPointBound, AreBounds, EachRow, due_in, IsPassedUpTo, IsSwept, limit_now, shared_now}
use Rattle.sweep_compiler.proofs.Prevailing.{first_of_candidates}

-- ---- one row

abbrev IsLaterThan : ℕ → Running → Type 0
IsLaterThan k run = (instant : ℕ) → due run ≡ Some instant → k < instant

abbrev pub HasStayed : ℕ → Running → Type 0
HasStayed k run = rate run.row.profile run.base k ≡ rate_running run

has_stayed : (run : Running) (k : ℕ) → run.since ≤ k → k ≤ run.last → IsLaterThan k run → HasStayed k run
has_stayed run k from upto later = go (places_left run) refl
  where
    go : (left : List Place) → places_left run ≡ left → HasStayed k run
    go [] is = stays_on run.row.profile run.base run.since run.last is k from upto
    go (place ∷ others) is =
        let facts = next_of run.row.profile run.base run.since run.last place others is in
        facts.stays k from (later place.instant (ap first_due is))

-- ---- each row

rows_later : (runs : List Running) (k : ℕ) → ((row instant : ℕ) → due_at runs row ≡ Some instant → k < instant) → AllByRecursion (IsLaterThan k) runs
rows_later [] k h = tt
rows_later (run ∷ later) k h = (λ instant is. h 0 instant is, rows_later later k (λ row instant is. h (suc row) instant is))

each_later : (bounds : List RunningBound) (k : ℕ) → ((n row instant : ℕ) → due_in bounds n row ≡ Some instant → k < instant) → EachRow (IsLaterThan k) bounds
each_later [] k h = tt
each_later (bound ∷ others) k h = (rows_later bound.runs k (h 0), each_later others k (λ n row instant is. h (suc n) row instant is))

rows_stayed : (state : PointState) (connector asked last at k : ℕ) → at ≤ k → k ≤ last → (runs : List Running)
    → AllByRecursion (IsPassedUpTo state connector asked last at) runs → AllByRecursion (IsLaterThan k) runs → AllByRecursion (HasStayed k) runs
rows_stayed state connector asked last at k from upto [] passed later = tt
rows_stayed state connector asked last at k from upto (run ∷ runs) passed later =
    let since = passed.0.since in
    let last_is = passed.0.last_is in
    (has_stayed run k (omega (arith, since, from)) (omega (arith, last_is, upto)) later.0, rows_stayed state connector asked last at k from upto runs passed.1 later.1)

each_stayed : (state : PointState) (connector asked last at k : ℕ) → at ≤ k → k ≤ last → (bounds : List RunningBound)
    → EachRow (IsPassedUpTo state connector asked last at) bounds → EachRow (IsLaterThan k) bounds → EachRow (HasStayed k) bounds
each_stayed state connector asked last at k from upto [] passed later = tt
each_stayed state connector asked last at k from upto (bound ∷ others) passed later =
    (rows_stayed state connector asked last at k from upto bound.runs passed.0 later.0, each_stayed state connector asked last at k from upto others passed.1 later.1)

first_at : (runs : List Running) (k : ℕ) → AllByRecursion (HasStayed k) runs → first_rate runs ≡ first_limit k (map seen_running runs)
first_at [] k stayed = refl
first_at (run ∷ later) k stayed =
    ap (λ (limit : Option ℕ). or_else limit (first_rate later)) (sym stayed.0)
    ∙ ap (or_else (rate run.row.profile run.base k)) (first_at later k stayed.1)

-- ---- bounds

-- the limit of the first row that has one is that of the rows in front, or otherwise of the others
first_append : (instant : ℕ) (rows others : List SeenRow) → first_limit instant (rows ++ others) ≡ or_else (first_limit instant rows) (first_limit instant others)
first_append instant [] others = refl
first_append instant (x ∷ rows) others = go (limit_seen instant x) (first_append instant rows others)
  where
    go : (limit : Option ℕ) → first_limit instant (rows ++ others) ≡ or_else (first_limit instant rows) (first_limit instant others)
        → or_else limit (first_limit instant (rows ++ others)) ≡ or_else (or_else limit (first_limit instant rows)) (first_limit instant others)
    go None h = h
    go (Some limit) h = refl

point_now : (state : PointState) (asked k : ℕ) (bound : RunningBound) → IsPointBound state asked bound → AllByRecursion (HasStayed k) bound.runs
    → bound_now bound ≡ at_most state.ceiling (prevailing ChargePointMaxProfile state 0 asked k)
point_now state asked k bound is stayed =
    ap (at_most bound.ceiling) (first_at bound.runs k stayed ∙ (ap (first_limit k) is.runs ∙ first_of_candidates ChargePointMaxProfile state 0 asked k is.most is.most_is))
    ∙ ap (λ (ceiling : ℕ). at_most ceiling (prevailing ChargePointMaxProfile state 0 asked k)) is.ceiling

both_first : (state : PointState) (connector asked k : ℕ) (own default : List Row)
    → first_limit k (map (seen_from state connector asked) (own ++ default)) ≡ or_else (first_limit k (map (seen_from state connector asked) own)) (first_limit k (map (seen_from state connector asked) default))
both_first state connector asked k own default =
    ap (first_limit k) (map-append (seen_from state connector asked) own default)
    ∙ first_append k (map (seen_from state connector asked) own) (map (seen_from state connector asked) default)

connector_now : (state : PointState) (asked k connector : ℕ) (bound : RunningBound) → IsConnectorBound state asked connector bound → AllByRecursion (HasStayed k) bound.runs
    → bound_now bound ≡ own_limit state connector asked k
connector_now state asked k connector bound is stayed =
    let own = first_of_candidates TxProfile state connector asked k is.own is.own_is in
    let default = first_of_candidates TxDefaultProfile state connector asked k is.default is.default_is in
    ap (at_most bound.ceiling)
    (first_at bound.runs k stayed
    ∙ (ap (first_limit k) is.runs
    ∙ (both_first state connector asked k is.own is.default
    ∙ (ap (λ (limit : Option ℕ). or_else limit (first_limit k (map (seen_from state connector asked) is.default))) own
    ∙ ap (or_else (prevailing TxProfile state connector asked k)) default))))
    ∙ ap (λ (ceiling : ℕ). at_most ceiling (or_else (prevailing TxProfile state connector asked k) (prevailing TxDefaultProfile state connector asked k))) is.ceiling

pub sum_now : (state : PointState) (asked k : ℕ) (looked : List ℕ) (others : List RunningBound) → AllZip (λ connector bound. IsConnectorBound state asked connector bound) looked others
    → EachRow (HasStayed k) others → sum_by bound_now others ≡ sum_by (λ connector. own_limit state connector asked k) looked
sum_now state asked k [] [] are stayed = refl
sum_now state asked k [] (bound ∷ others) are stayed = absurd are
sum_now state asked k (connector ∷ looked) [] are stayed = absurd are
sum_now state asked k (connector ∷ looked) (bound ∷ others) are stayed =
    sum_by-cons bound_now bound others
    ∙ (ap (λ (n : ℕ). n + sum_by bound_now others) (connector_now state asked k connector bound are.0 stayed.0)
    ∙ (ap (λ (n : ℕ). own_limit state connector asked k + n) (sum_now state asked k looked others are.1 stayed.1)
    ∙ sym (sum_by-cons (λ connector. own_limit state connector asked k) connector looked)))

-- ---- the whole

least_by : (whole : Bool) (state : PointState) (connector asked instant : ℕ)
    → min (at_most state.ceiling (prevailing ChargePointMaxProfile state 0 asked instant)) (sum_by (λ looked. own_limit state looked asked instant) (cond whole (active_connectors state) (connector ∷ [])))
    ≡ limit_by whole state connector asked instant
least_by true state connector asked instant = refl
least_by false state connector asked instant =
    let one : 0 + own_limit state connector asked instant ≡ own_limit state connector asked instant = omega arith in
    ap (min (at_most state.ceiling (prevailing ChargePointMaxProfile state 0 asked instant))) one

now_by : (state : PointState) (connector asked k : ℕ) (bounds : List RunningBound) (sum : ℕ) → AreBounds state connector asked bounds → EachRow (HasStayed k) bounds
    → sum ≡ shared_now bounds → limit_now bounds sum ≡ limit state connector asked k
now_by state connector asked k [] sum are stayed sum_is = absurd are
now_by state connector asked k (point ∷ others) sum are stayed sum_is =
    ap (λ (n : ℕ). min n sum) (point_now state asked k point are.0 stayed.0)
    ∙ (ap (min (at_most state.ceiling (prevailing ChargePointMaxProfile state 0 asked k))) (sum_is ∙ sum_now state asked k (looked_at state connector) others are.1 stayed.1)
    ∙ least_by (connector == 0) state connector asked k)

-- each row has kept its limit up to an instant before which none is due
pub rows_now : (state : PointState) (connector asked last at k : ℕ) (bounds : List RunningBound) (items : List Due) (sum : ℕ) → IsSwept state connector asked last at bounds items sum
    → at ≤ k → k ≤ last → ((item : Due) → Contains items item → k < item.instant) → EachRow (HasStayed k) bounds
rows_now state connector asked last at k bounds items sum swept from upto before =
    let later = each_later bounds k (λ n row instant is. before (record { instant = instant; bound = n; row = row }) (swept.waits n row instant is)) in
    each_stayed state connector asked last at k from upto bounds swept.passed later

pub limit_stays : (state : PointState) (connector asked last at k : ℕ) (bounds : List RunningBound) (items : List Due) (sum : ℕ) → IsSwept state connector asked last at bounds items sum
    → at ≤ k → k ≤ last → ((item : Due) → Contains items item → k < item.instant) → limit_now bounds sum ≡ limit state connector asked k
limit_stays state connector asked last at k bounds items sum swept from upto before =
    now_by state connector asked k bounds sum swept.gathered (rows_now state connector asked last at k bounds items sum swept from upto before) swept.sum_is

pub first_now : (state : PointState) (connector asked : ℕ) (bounds : List RunningBound) (d : RunningBound) (sum : ℕ) → AreBounds state connector asked bounds
    → min (bound_now (get_or bounds 0 d)) sum ≡ limit_now bounds sum
first_now state connector asked [] d sum are = absurd are
first_now state connector asked (point ∷ others) d sum are = refl
