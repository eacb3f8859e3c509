-- A cause holds as stated, and the row that it names is one of the point.
use Rattle.std.proofs.Common.{◌≡◌, ℕ, ◌<◌, ◌==◌, Bool, true, false, ◌&&◌, List, [], ◌∷◌, filter, cond, Option, Some, None, nat_lt, option_map, refl, ap, sym, subst, ◌∙◌, arith}
use Rattle.std.specs.List.{AllByRecursion, filter_map, cons_option}
use Rattle.std.proofs.lemmas.Bool.Decides.{nat_tests}
use Rattle.profile.specs.declared.purpose.Purpose.{Purpose}
use Rattle.profile.specs.declared.purpose.Purpose.TheVariants.{ChargePointMaxProfile, TxDefaultProfile, TxProfile}
use Rattle.profile.specs.declared.row.Row.{Row}
use Rattle.profile.specs.Candidates.{is_candidate}
use Rattle.profile.specs.ChargingProfile.{rate}
use Rattle.profile.specs.Greatest.{greater, greatest}
use Rattle.profile.specs.Purpose.{is_charge_point_max, is_tx, is_tx_default}
use Rattle.profile.specs.Row.{base}
use Rattle.meaning.specs.declared.cause.Cause.TheVariants.{Profile, PointCeiling, ConnectorCeiling, Sum}
use Rattle.meaning.specs.View.{PointState, active_since, ceiling_of}
use Rattle.meaning.specs.Prevailing.{counted, has_its_transaction}
use Rattle.meaning.specs.Limit.{shared_limit}
use Rattle.meaning.specs.Cause.{RowLimit, Bound, with_limit, row_limit, level_of, prevailing_row, row_or_else, profile_of, bound_of, lesser, lesser_of, own_bound, below_point, bound_by, counts_for, IsRowOf, IsPrevailing, IsSetBy}

-- ---- an element picked from a list has the properties of all its elements

all_given : {X Y : Type 0} (P : Y → Type 0) (give : X → Option Y) (xs : List X) → AllByRecursion (λ x. (y : Y) → give x ≡ Some y → P y) xs → AllByRecursion P (filter_map give xs)
all_given P give [] h = tt
all_given {X = X} {Y = Y} P give (x ∷ xs) h = go (give x) h.0 (all_given P give xs h.1)
  where
    go : (given : Option Y) → ((y : Y) → given ≡ Some y → P y) → AllByRecursion P (filter_map give xs) → AllByRecursion P (cons_option given (filter_map give xs))
    go None h rest = rest
    go (Some y) h rest = (h y refl, rest)

all_passing : {X : Type 0} (P : X → Type 0) (test : X → Bool) (xs : List X) → AllByRecursion (λ x. test x ≡ true → P x) xs → AllByRecursion P (filter test xs)
all_passing P test [] h = tt
all_passing {X = X} P test (x ∷ xs) h = go (test x) h.0 (all_passing P test xs h.1)
  where
    go : (b : Bool) → (b ≡ true → P x) → AllByRecursion P (filter test xs) → AllByRecursion P (cond b (x ∷ filter test xs) (filter test xs))
    go true h rest = (h refl, rest)
    go false h rest = rest

pub some_is : {X : Type 0} (P : X → Type 0) (x y : X) → P x → Some x ≡ Some y → P y
some_is P x y h e = let same : x ≡ y = cc in subst P same h

greatest_among : {X : Type 0} (P : X → Type 0) (key : X → ℕ) (xs : List X) (x : X) → AllByRecursion P xs → greatest key xs ≡ Some x → P x
greatest_among {X = X} P key [] x h e = absurd (none_is_not e)
  where
    none_is_not : ◌≡◌ {A = Option X} None (Some x) → ⊥
    none_is_not e = cc
greatest_among {X = X} P key (y ∷ ys) x h e = go (greatest key ys) (λ z. greatest_among P key ys z h.1) e
  where
    pick : (b : Bool) (z : X) → P z → P (cond b z y)
    pick true z k = k
    pick false z k = h.0

    go : (best : Option X) → ((z : X) → best ≡ Some z → P z) → Some (greater key y best) ≡ Some x → P x
    go None rest e = some_is P y x h.0 e
    go (Some z) rest e = some_is P (greater key y (Some z)) x (pick (nat_lt (key y) (key z)) z (rest z refl)) e

-- ---- rows of a point

stands_later : (first : Row) (rows : List Row) (row : Row) → IsRowOf rows row → IsRowOf (first ∷ rows) row
stands_later first rows row h = record { before = first ∷ h.before; after = h.after; is = ap (λ (rows : List Row). first ∷ rows) h.is }

weaker : {X : Type 0} (P Q : X → Type 0) → ((x : X) → P x → Q x) → (xs : List X) → AllByRecursion P xs → AllByRecursion Q xs
weaker P Q h [] k = tt
weaker P Q h (x ∷ xs) k = (h x k.0, weaker P Q h xs k.1)

all_stand : (rows : List Row) → AllByRecursion (IsRowOf rows) rows
all_stand [] = tt
all_stand (row ∷ rows) = (record { before = []; after = rows; is = refl }, weaker (IsRowOf rows) (IsRowOf (row ∷ rows)) (stands_later row rows) rows (all_stand rows))

pub and_first : (a b : Bool) → (a && b) ≡ true → a ≡ true
and_first true b h = refl
and_first false b h = h

max_is : (purpose : Purpose) → is_charge_point_max purpose ≡ true → purpose ≡ ChargePointMaxProfile
max_is ChargePointMaxProfile h = refl
max_is TxDefaultProfile h = cc
max_is TxProfile h = cc

default_is : (purpose : Purpose) → is_tx_default purpose ≡ true → purpose ≡ TxDefaultProfile
default_is ChargePointMaxProfile h = cc
default_is TxDefaultProfile h = refl
default_is TxProfile h = cc

tx_is : (purpose : Purpose) → is_tx purpose ≡ true → purpose ≡ TxProfile
tx_is ChargePointMaxProfile h = cc
tx_is TxDefaultProfile h = cc
tx_is TxProfile h = refl

purpose_is : (purpose : Purpose) (rows : List Row) (connector : ℕ) (row : Row) → is_candidate purpose rows connector row ≡ true → row.profile.purpose ≡ purpose
purpose_is ChargePointMaxProfile rows connector row h = max_is row.profile.purpose (and_first _ _ h)
purpose_is TxDefaultProfile rows connector row h = default_is row.profile.purpose (and_first _ _ h)
purpose_is TxProfile rows connector row h = tx_is row.profile.purpose (and_first _ _ h)

-- a row counts for a connector among the profiles of a purpose
pub record Counts (purpose : Purpose) (state : PointState) (connector : ℕ) (row : Row) : Type 0 where
  pub stands : IsRowOf state.rows row
  pub purpose_is : row.profile.purpose ≡ purpose
  pub has : has_its_transaction purpose (active_since state connector) ≡ true
  pub speaks : is_candidate purpose state.rows connector row ≡ true

counted_are : (purpose : Purpose) (state : PointState) (connector : ℕ) → AllByRecursion (Counts purpose state connector) (counted purpose state connector)
counted_are purpose state connector = go (has_its_transaction purpose (active_since state connector)) refl
  where
    go : (b : Bool) → has_its_transaction purpose (active_since state connector) ≡ b
        → AllByRecursion (Counts purpose state connector) (cond b (filter (is_candidate purpose state.rows connector) state.rows) [])
    go true has =
        all_passing (Counts purpose state connector) (is_candidate purpose state.rows connector) state.rows
        (weaker (IsRowOf state.rows) (λ row. is_candidate purpose state.rows connector row ≡ true → Counts purpose state connector row)
        (λ row h passes. record { stands = h; purpose_is = purpose_is purpose state.rows connector row passes; has = has; speaks = passes }) state.rows (all_stand state.rows))
    go false has = tt

-- a row that counts, with its limit
pub record CountsWith (purpose : Purpose) (state : PointState) (connector asked instant : ℕ) (best : RowLimit) : Type 0 where
  pub counts : Counts purpose state connector best.row
  pub limit : row_limit state connector asked instant best.row ≡ Some best

given_row : (row : Row) (limit : Option ℕ) (best : RowLimit) → option_map (with_limit row) limit ≡ Some best → best.row ≡ row
given_row row None best h = cc
given_row row (Some limit) best h = some_is (λ (best : RowLimit). best.row ≡ row) (with_limit row limit) best refl h

-- the row that prevails counts, with its limit
pub prevailing_of : (purpose : Purpose) (state : PointState) (connector asked instant : ℕ) (best : RowLimit)
    → prevailing_row purpose state connector asked instant ≡ Some best → CountsWith purpose state connector asked instant best
prevailing_of purpose state connector asked instant best h =
    greatest_among (CountsWith purpose state connector asked instant) level_of (filter_map (row_limit state connector asked instant) (counted purpose state connector)) best
    (all_given (CountsWith purpose state connector asked instant) (row_limit state connector asked instant) (counted purpose state connector)
    (weaker (Counts purpose state connector) (λ row. (best : RowLimit) → row_limit state connector asked instant row ≡ Some best → CountsWith purpose state connector asked instant best)
    (λ row counts best given.
    let same : best.row ≡ row = given_row row (rate row.profile (base row (active_since state connector) asked) instant) best given in
    record {
      counts = subst (Counts purpose state connector) (sym same) counts;
      limit = ap (row_limit state connector asked instant) same ∙ given;
    })
    (counted purpose state connector) (counted_are purpose state connector)))
    h

is_prevailing : (purpose : Purpose) (state : PointState) (connector asked instant : ℕ) (best : RowLimit)
    → prevailing_row purpose state (counts_for purpose connector) asked instant ≡ Some best
    → IsPrevailing state connector asked instant best.limit (profile_of best.row)
is_prevailing purpose state connector asked instant best h =
    let of = prevailing_of purpose state (counts_for purpose connector) asked instant best h in
    record {
      row = best.row;
      stands = of.counts.stands;
      of_row = refl;
      prevails = subst (λ (purpose : Purpose). prevailing_row purpose state (counts_for purpose connector) asked instant ≡ Some best) (sym of.counts.purpose_is) h;
    }

-- ---- the least of some bounds

lesser_has : (P : Bound → Type 0) (first second : Bound) → P first → P second → P (lesser first second)
lesser_has P first second h k = go (nat_lt second.limit first.limit)
  where
    go : (b : Bool) → P (cond b second first)
    go true = k
    go false = h

row_has : (P : Bound → Type 0) (best : Option RowLimit) (other : Bound) → ((row : RowLimit) → best ≡ Some row → P (bound_of (Profile (profile_of row.row)) row.limit)) → P other
    → P (lesser_of best other)
row_has P None other h k = k
row_has P (Some best) other h k = lesser_has P _ other (h best refl) k

abbrev Sets : PointState → ℕ → ℕ → ℕ → Bound → Type 0
Sets state connector asked instant bound = IsSetBy state connector asked instant bound.limit bound.cause

either_has : (first other : Option RowLimit) (P : RowLimit → Type 0) → ((row : RowLimit) → first ≡ Some row → P row) → ((row : RowLimit) → other ≡ Some row → P row)
    → (row : RowLimit) → row_or_else first other ≡ Some row → P row
either_has None other P h k row e = k row e
either_has (Some first) other P h k row e = h row e

pub own_sets : (state : PointState) (connector asked instant : ℕ) → 0 < connector → Sets state connector asked instant (own_bound state connector asked instant)
own_sets state connector asked instant above =
    row_has (Sets state connector asked instant) _ (bound_of ConnectorCeiling (ceiling_of state connector))
    (either_has (prevailing_row TxProfile state connector asked instant) (prevailing_row TxDefaultProfile state connector asked instant)
    (λ (best : RowLimit). IsPrevailing state connector asked instant best.limit (profile_of best.row))
    (λ best h. is_prevailing TxProfile state connector asked instant best h)
    (λ best h. is_prevailing TxDefaultProfile state connector asked instant best h))
    (above, refl)

below_sets : (state : PointState) (connector asked instant : ℕ) (bound : Bound) → Sets state connector asked instant bound → Sets state connector asked instant (below_point state asked instant bound)
below_sets state connector asked instant bound h =
    row_has (Sets state connector asked instant) (prevailing_row ChargePointMaxProfile state 0 asked instant) _
    (λ best is. is_prevailing ChargePointMaxProfile state connector asked instant best is)
    (lesser_has (Sets state connector asked instant) bound (bound_of PointCeiling state.ceiling) h refl)

pub bound_sets : (state : PointState) (connector asked instant : ℕ) → Sets state connector asked instant (bound_by (connector == 0) state connector asked instant)
bound_sets state connector asked instant = go (connector == 0) refl
  where
    go : (b : Bool) → (connector == 0) ≡ b → Sets state connector asked instant (bound_by b state connector asked instant)
    go true is = let zero_is : connector ≡ 0 = grind (arith, nat_tests) in
        below_sets state connector asked instant (bound_of Sum (shared_limit state asked instant)) (zero_is, refl)
    go false is = let above : 0 < connector = grind (arith, nat_tests) in
        below_sets state connector asked instant (own_bound state connector asked instant) (own_sets state connector asked instant above)
