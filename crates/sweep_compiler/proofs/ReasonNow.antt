-- The limits in force of a request's bounds give the reason of its limit, from the sweep's instant
-- up to the next place.
use Rattle.std.proofs.Common.{◌≡◌, ℕ, ◌≤◌, ◌<◌, ◌==◌, Bool, true, false, List, [], ◌∷◌, ◌++◌, map, cond, nat_lt, get_or, Option, Some, None, option_map, refl, ap, sym, subst, ◌∙◌, arith}
use Rattle.std.specs.List.{AllByRecursion, AllZip, Contains}
use Rattle.std.proofs.lemmas.Bool.Decides.{nat_tests}
use Rattle.profile.specs.declared.purpose.Purpose.TheVariants.{ChargePointMaxProfile, TxDefaultProfile, TxProfile}
use Rattle.profile.specs.declared.row.Row.{Row}
use Rattle.profile.specs.ChargingProfile.{rate}
use Rattle.meaning.specs.declared.cause.Cause.{Cause}
use Rattle.meaning.specs.declared.cause.Cause.TheVariants.{Profile, ConnectorCeiling, PointCeiling, Sum}
use Rattle.meaning.specs.declared.cause.Share.{Share}
use Rattle.meaning.specs.declared.cause.Reason.{Reason}
use Rattle.meaning.specs.View.{PointState, ceiling_of}
use Rattle.meaning.specs.Limit.{active_connectors}
use Rattle.meaning.specs.Cause.{RowLimit, Bound, with_limit, prevailing_row, row_or_else, transaction_row, bound_of, lesser, lesser_of, own_bound, below_point, bound, bound_by, share, shares_by, reason}
use Rattle.sweep_compiler.specs.ByCases.Seen.{SeenRow, limit_seen, seen_from}
use Rattle.sweep_compiler.specs.ByCases.Running.{Running, RunningBound, seen_running, first_row, own_bound_now, below_now, share_by, share_now}
use Rattle.sweep_compiler.specs.ByCases.Queue.{Due}
use Rattle.sweep_compiler.specs.ByCases.Swept.{IsConnectorBound, IsPointBound, AreBounds, EachRow, IsSwept, shared_now, shares_now, bound_as_now}
use Rattle.sweep_compiler.proofs.LimitNow.{HasStayed, rows_now, sum_now}
use Rattle.sweep_compiler.proofs.Prevailing.{rate_for, first_of, row_of_candidates}

-- ---- the first row that has a limit

abbrev first_seen : ℕ → List SeenRow → Option RowLimit
first_seen k [] = None
first_seen k (seen ∷ later) = row_or_else (option_map (with_limit seen.row) (limit_seen k seen)) (first_seen k later)

first_at : (runs : List Running) (k : ℕ) → AllByRecursion (HasStayed k) runs → first_row runs ≡ first_seen k (map seen_running runs)
first_at [] k stayed = refl
first_at (run ∷ later) k stayed =
    ap (λ (limit : Option ℕ). row_or_else (option_map (with_limit run.row) limit) (first_row later)) (sym stayed.0)
    ∙ ap (row_or_else (option_map (with_limit run.row) (rate run.row.profile run.base k))) (first_at later k stayed.1)

first_rows : (state : PointState) (connector asked k : ℕ) (rows : List Row) → first_seen k (map (seen_from state connector asked) rows) ≡ first_of (rate_for state connector asked k) rows
first_rows state connector asked k [] = refl
first_rows state connector asked k (row ∷ rows) =
    ap (row_or_else (option_map (with_limit row) (rate_for state connector asked k row))) (first_rows state connector asked k rows)

first_both : (give : Row → Option ℕ) (own default : List Row) → first_of give (own ++ default) ≡ row_or_else (first_of give own) (first_of give default)
first_both give [] default = refl
first_both give (row ∷ own) default = go (option_map (with_limit row) (give row)) (first_both give own default)
  where
    go : (best : Option RowLimit) → first_of give (own ++ default) ≡ row_or_else (first_of give own) (first_of give default)
        → row_or_else best (first_of give (own ++ default)) ≡ row_or_else (row_or_else best (first_of give own)) (first_of give default)
    go None h = h
    go (Some best) h = refl

-- ---- bounds

point_row : (state : PointState) (asked k : ℕ) (bound : RunningBound) → IsPointBound state asked bound → AllByRecursion (HasStayed k) bound.runs
    → first_row bound.runs ≡ prevailing_row ChargePointMaxProfile state 0 asked k
point_row state asked k bound is stayed =
    first_at bound.runs k stayed
    ∙ (ap (first_seen k) is.runs ∙ (first_rows state 0 asked k is.most ∙ row_of_candidates ChargePointMaxProfile state 0 asked k is.most is.most_is))

connector_row : (state : PointState) (asked k connector : ℕ) (bound : RunningBound) → IsConnectorBound state asked connector bound → AllByRecursion (HasStayed k) bound.runs
    → first_row bound.runs ≡ transaction_row state connector asked k
connector_row state asked k connector bound is stayed =
    let give = rate_for state connector asked k in
    first_at bound.runs k stayed
    ∙ (ap (first_seen k) is.runs
    ∙ (first_rows state connector asked k (is.own ++ is.default)
    ∙ (first_both give is.own is.default
    ∙ (ap (λ (best : Option RowLimit). row_or_else best (first_of give is.default)) (row_of_candidates TxProfile state connector asked k is.own is.own_is)
    ∙ ap (row_or_else (prevailing_row TxProfile state connector asked k)) (row_of_candidates TxDefaultProfile state connector asked k is.default is.default_is)))))

own_now : (state : PointState) (asked k connector : ℕ) (bound : RunningBound) → IsConnectorBound state asked connector bound → AllByRecursion (HasStayed k) bound.runs
    → own_bound_now bound ≡ own_bound state connector asked k
own_now state asked k connector bound is stayed =
    ap (λ (best : Option RowLimit). lesser_of best (bound_of ConnectorCeiling bound.ceiling)) (connector_row state asked k connector bound is stayed)
    ∙ ap (λ (ceiling : ℕ). lesser_of (transaction_row state connector asked k) (bound_of ConnectorCeiling ceiling)) is.ceiling

point_now : (state : PointState) (asked k : ℕ) (point : RunningBound) (other : Bound) → IsPointBound state asked point → AllByRecursion (HasStayed k) point.runs
    → below_now point other ≡ below_point state asked k other
point_now state asked k point other is stayed =
    ap (λ (best : Option RowLimit). lesser_of best (lesser other (bound_of PointCeiling point.ceiling))) (point_row state asked k point is stayed)
    ∙ ap (λ (ceiling : ℕ). lesser_of (prevailing_row ChargePointMaxProfile state 0 asked k) (lesser other (bound_of PointCeiling ceiling))) is.ceiling

abbrev AreLookedAt : PointState → ℕ → List ℕ → List RunningBound → Type 0
AreLookedAt state asked looked bounds = AllZip (λ connector bound. IsConnectorBound state asked connector bound) looked bounds

bound_by_now : (whole : Bool) (state : PointState) (connector asked k : ℕ) (point : RunningBound) (others : List RunningBound) (sum : ℕ) → IsPointBound state asked point
    → AreLookedAt state asked (cond whole (active_connectors state) (connector ∷ [])) others → EachRow (HasStayed k) (point ∷ others) → sum ≡ shared_now (point ∷ others)
    → bound_as_now whole (point ∷ others) sum ≡ bound_by whole state connector asked k
bound_by_now true state connector asked k point others sum is are stayed sum_is =
    point_now state asked k point (bound_of Sum sum) is stayed.0
    ∙ ap (λ (n : ℕ). below_point state asked k (bound_of Sum n)) (sum_is ∙ sum_now state asked k (active_connectors state) others are stayed.1)
bound_by_now false state connector asked k point [] sum is are stayed sum_is = absurd are
bound_by_now false state connector asked k point (own ∷ others) sum is are stayed sum_is =
    point_now state asked k point (own_bound_now own) is stayed.0
    ∙ ap (below_point state asked k) (own_now state asked k connector own are.0 stayed.1.0)

bound_of_bounds : (state : PointState) (connector asked k : ℕ) (bounds : List RunningBound) (sum : ℕ) → AreBounds state connector asked bounds → EachRow (HasStayed k) bounds
    → sum ≡ shared_now bounds → bound_as_now (connector == 0) bounds sum ≡ bound_by (connector == 0) state connector asked k
bound_of_bounds state connector asked k [] sum are stayed sum_is = absurd are
bound_of_bounds state connector asked k (point ∷ others) sum are stayed sum_is =
    bound_by_now (connector == 0) state connector asked k point others sum are.0 are.1 stayed sum_is

pub bound_stays : (state : PointState) (connector asked last at k : ℕ) (bounds : List RunningBound) (items : List Due) (sum : ℕ) → IsSwept state connector asked last at bounds items sum
    → at ≤ k → k ≤ last → ((item : Due) → Contains items item → k < item.instant)
    → bound_as_now (connector == 0) bounds sum ≡ bound_by (connector == 0) state connector asked k
bound_stays state connector asked last at k bounds items sum swept from upto before =
    bound_of_bounds state connector asked k bounds sum swept.gathered (rows_now state connector asked last at k bounds items sum swept from upto before) swept.sum_is

-- ---- the shares

shares_are : (state : PointState) (asked k : ℕ) (looked : List ℕ) (others : List RunningBound) → AreLookedAt state asked looked others → EachRow (HasStayed k) others
    → map share_now others ≡ map (share state asked k) looked
shares_are state asked k [] [] are stayed = refl
shares_are state asked k [] (bound ∷ others) are stayed = absurd are
shares_are state asked k (connector ∷ looked) [] are stayed = absurd are
shares_are state asked k (connector ∷ looked) (bound ∷ others) are stayed =
    ap (λ (n : ℕ). share_by n (own_bound_now bound) ∷ map share_now others) are.0.number
    ∙ (ap (λ (own : Bound). share_by connector own ∷ map share_now others) (own_now state asked k connector bound are.0 stayed.0)
    ∙ ap (λ (shares : List Share). share state asked k connector ∷ shares) (shares_are state asked k looked others are.1 stayed.1))

-- ---- the whole

abbrev NoSum : Cause → Type 0
NoSum Sum = ⊥
NoSum other = Unit {0}

lesser_no_sum : (first second : Bound) → NoSum first.cause → NoSum second.cause → NoSum (lesser first second).cause
lesser_no_sum first second h k = go (nat_lt second.limit first.limit)
  where
    go : (b : Bool) → NoSum (cond b second first).cause
    go true = k
    go false = h

row_no_sum : (best : Option RowLimit) (other : Bound) → NoSum other.cause → NoSum (lesser_of best other).cause
row_no_sum None other h = h
row_no_sum (Some best) other h = lesser_no_sum _ other tt h

connector_no_sum : (state : PointState) (connector asked k : ℕ) → NoSum (bound_by false state connector asked k).cause
connector_no_sum state connector asked k =
    row_no_sum (prevailing_row ChargePointMaxProfile state 0 asked k) _
    (lesser_no_sum (own_bound state connector asked k) (bound_of PointCeiling state.ceiling)
    (row_no_sum (transaction_row state connector asked k) (bound_of ConnectorCeiling (ceiling_of state connector)) tt) tt)

-- the shares if the cause is the sum
abbrev pub shares_of : Cause → List Share → List Share
shares_of Sum shares = shares
shares_of other shares = []

shares_by_now : (cause : Cause) (state : PointState) (asked k : ℕ) (shares : List Share) → shares ≡ map (share state asked k) (active_connectors state) → shares_of cause shares ≡ shares_by cause state asked k
shares_by_now (Profile profile) state asked k shares h = refl
shares_by_now ConnectorCeiling state asked k shares h = refl
shares_by_now PointCeiling state asked k shares h = refl
shares_by_now Sum state asked k shares h = h

no_sum_no_shares : (cause : Cause) (shares : List Share) (state : PointState) (asked k : ℕ) → NoSum cause → shares_of cause shares ≡ shares_by cause state asked k
no_sum_no_shares (Profile profile) shares state asked k h = refl
no_sum_no_shares ConnectorCeiling shares state asked k h = refl
no_sum_no_shares PointCeiling shares state asked k h = refl
no_sum_no_shares Sum shares state asked k h = absurd h

abbrev pub reason_of : Bound → List Share → Reason
reason_of bound shares = record { limit = bound.limit; cause = bound.cause; shares = shares }

-- the reason from the bounds as they are now
abbrev pub reason_now : ℕ → List RunningBound → ℕ → Reason
reason_now connector bounds sum =
    reason_of (bound_as_now (connector == 0) bounds sum) (shares_of (bound_as_now (connector == 0) bounds sum).cause (shares_now bounds))

shares_by_bound : (whole : Bool) (state : PointState) (connector asked k : ℕ) (others : List RunningBound)
    → AreLookedAt state asked (cond whole (active_connectors state) (connector ∷ [])) others → EachRow (HasStayed k) others
    → shares_of (bound_by whole state connector asked k).cause (map share_now others) ≡ shares_by (bound_by whole state connector asked k).cause state asked k
shares_by_bound true state connector asked k others are stayed =
    shares_by_now (bound_by true state connector asked k).cause state asked k (map share_now others) (shares_are state asked k (active_connectors state) others are stayed)
shares_by_bound false state connector asked k others are stayed =
    no_sum_no_shares (bound_by false state connector asked k).cause (map share_now others) state asked k (connector_no_sum state connector asked k)

reason_of_bounds : (state : PointState) (connector asked k : ℕ) (bounds : List RunningBound) (sum : ℕ) → AreBounds state connector asked bounds → EachRow (HasStayed k) bounds
    → sum ≡ shared_now bounds → reason_now connector bounds sum ≡ reason state connector asked k
reason_of_bounds state connector asked k [] sum are stayed sum_is = absurd are
reason_of_bounds state connector asked k (point ∷ others) sum are stayed sum_is =
    ap (λ (bound : Bound). reason_of bound (shares_of bound.cause (map share_now others))) (bound_by_now (connector == 0) state connector asked k point others sum are.0 are.1 stayed sum_is)
    ∙ ap (reason_of (bound state connector asked k)) (shares_by_bound (connector == 0) state connector asked k others are.1 stayed.1)

pub reason_stays : (state : PointState) (connector asked last at k : ℕ) (bounds : List RunningBound) (items : List Due) (sum : ℕ) → IsSwept state connector asked last at bounds items sum
    → at ≤ k → k ≤ last → ((item : Due) → Contains items item → k < item.instant) → reason_now connector bounds sum ≡ reason state connector asked k
reason_stays state connector asked last at k bounds items sum swept from upto before =
    reason_of_bounds state connector asked k bounds sum swept.gathered (rows_now state connector asked last at k bounds items sum swept from upto before) swept.sum_is

-- the shares in a request for the whole point
shares_at_point : (state : PointState) (asked k : ℕ) (bounds : List RunningBound) → AreBounds state 0 asked bounds → EachRow (HasStayed k) bounds → shares_now bounds ≡ shares_by Sum state asked k
shares_at_point state asked k [] are stayed = absurd are
shares_at_point state asked k (point ∷ others) are stayed = shares_are state asked k (active_connectors state) others are.1 stayed.1

pub shares_stay : (state : PointState) (connector asked last at k : ℕ) (bounds : List RunningBound) (items : List Due) (sum : ℕ) → IsSwept state connector asked last at bounds items sum
    → at ≤ k → k ≤ last → ((item : Due) → Contains items item → k < item.instant) → connector ≡ 0 → shares_now bounds ≡ shares_by Sum state asked k
shares_stay state connector asked last at k bounds items sum swept from upto before whole =
    shares_at_point state asked k bounds (subst (λ (n : ℕ). AreBounds state n asked bounds) whole swept.gathered) (rows_now state connector asked last at k bounds items sum swept from upto before)

-- if the sum sets the limit, the request is for the whole point
pub sum_is_whole : (state : PointState) (connector asked k : ℕ) → (bound state connector asked k).cause ≡ Sum → connector ≡ 0
sum_is_whole state connector asked k sum = go (connector == 0) refl sum
  where
    go : (whole : Bool) → (connector == 0) ≡ whole → (bound_by whole state connector asked k).cause ≡ Sum → connector ≡ 0
    go true is sum = grind (arith, nat_tests, is)
    go false is sum = absurd (subst NoSum sum (connector_no_sum state connector asked k))

-- ---- as the code reads it

pub whole_read : (state : PointState) (connector asked : ℕ) (bounds : List RunningBound) (d : RunningBound) (sum : ℕ) → AreBounds state connector asked bounds → (connector == 0) ≡ true
    → below_now (get_or bounds 0 d) (bound_of Sum sum) ≡ bound_as_now (connector == 0) bounds sum
whole_read state connector asked [] d sum are is = absurd are
whole_read state connector asked (point ∷ others) d sum are is = ap (λ (whole : Bool). bound_as_now whole (point ∷ others) sum) (sym is)

connector_by : (whole : Bool) (state : PointState) (connector asked : ℕ) (point : RunningBound) (others : List RunningBound) (d e : RunningBound) (sum : ℕ)
    → AreLookedAt state asked (cond whole (active_connectors state) (connector ∷ [])) others → whole ≡ false
    → below_now point (own_bound_now (get_or (point ∷ others) 1 e)) ≡ bound_as_now whole (point ∷ others) sum
connector_by true state connector asked point others d e sum are is = cc
connector_by false state connector asked point [] d e sum are is = absurd are
connector_by false state connector asked point (own ∷ others) d e sum are is = refl

pub connector_read : (state : PointState) (connector asked : ℕ) (bounds : List RunningBound) (d e : RunningBound) (sum : ℕ) → AreBounds state connector asked bounds → (connector == 0) ≡ false
    → below_now (get_or bounds 0 d) (own_bound_now (get_or bounds 1 e)) ≡ bound_as_now (connector == 0) bounds sum
connector_read state connector asked [] d e sum are is = absurd are
connector_read state connector asked (point ∷ others) d e sum are is = connector_by (connector == 0) state connector asked point others d e sum are.1 is
