-- The rows at the recorded indexes are the candidates level by level.
use Rattle.std.proofs.Common.{◌≡◌, ℕ, ◌+◌, ◌-◌, ◌<◌, ◌≤◌, ◌==◌, zero, suc, Bool, true, false, not, ◌&&◌, ◌||◌, cond, refl, ap, sym, ◌∙◌, List, [], ◌∷◌, take, length, Option, Some, None, option_and_then, slice_get, slice_index, slice_index_or, arith}
use Rattle.std.specs.List.{AllByRecursion, find, cons_option, list_any}
use Rattle.std.specs.Option.{option_or}
use Rattle.std.proofs.lemmas.Bool.{eqb-true}
use Rattle.std.proofs.lemmas.List.{take_more}
use Rattle.std.proofs.lemmas.Option.{slice_get_read}
use Rattle.std.proofs.lemmas.List.Folds.{find-append}
use Rattle.profile.specs.declared.purpose.Purpose.{Purpose}
use Rattle.profile.specs.declared.purpose.Purpose.TheVariants.{ChargePointMaxProfile, TxDefaultProfile, TxProfile}
use Rattle.profile.specs.declared.row.Row.{Row}
use Rattle.profile.specs.Purpose.{is_tx_default}
use Rattle.profile.specs.Candidates.{is_replaced_at}
use Rattle.stacking.specs.ByCases.Candidates.{AreCandidatePlaces, candidate_at, candidates_below, first_at, of_level, own_connector, rows_below, shared_connector, is_row_at}
use Rattle.stacking.proofs.CandidateLemmas.{all-of, none-passes}

-- ---- the iterator

pub below_next : (rows : List Row) (places : List ℕ) (below : ℕ) → 0 < below
    → rows_below rows places below
    ≡ cons_option (slice_get rows (slice_index places (below - 1))) (rows_below rows places (below - 1))
unfolding rows_below
below_next rows places zero some = absurd (go some)
  where
    go : 0 < zero → ⊥
    go some = omega arith
below_next rows places (suc level) some = let e : suc level - 1 ≡ level = omega arith in rw e refl

pub below_none : (rows : List Row) (places : List ℕ) (below : ℕ) → below ≤ 0 → rows_below rows places below ≡ []
unfolding rows_below
below_none rows places zero none = refl
below_none rows places (suc level) none = absurd (go none)
  where
    go : suc level ≤ 0 → ⊥
    go none = omega arith

-- ---- one row for each level

find-agree : {X : Type 0} (p q : X → Bool) (xs : List X) → AllByRecursion (λ x. p x ≡ q x) xs → find p xs ≡ find q xs
find-agree p q [] agree = refl
find-agree p q (x ∷ xs) agree = λ i. cond (agree.0 i) (Some x) (find-agree p q xs agree.1 i)

none-found : {X : Type 0} (p : X → Bool) (xs : List X) → AllByRecursion (λ x. p x ≡ false) xs → find p xs ≡ None
none-found p [] none = refl
none-found p (x ∷ xs) none = rw none.0 (none-found p xs none.1)

any-found : {X : Type 0} (p q : X → Bool) (xs : List X) → AllByRecursion (λ x. p x ≡ q x) xs → list_any p xs ≡ true → (other : Option X)
    → option_or (find q xs) other ≡ find q xs
any-found p q [] agree any other = cc
any-found {X = X} p q (x ∷ xs) agree any other = go (p x) (q x) agree.0 any (λ more. any-found p q xs agree.1 more other)
  where
    go : (a b : Bool) → a ≡ b → (a || list_any p xs) ≡ true → (list_any p xs ≡ true → option_or (find q xs) other ≡ find q xs)
        → option_or (cond b (Some x) (find q xs)) other ≡ cond b (Some x) (find q xs)
    go a true same any rest = refl
    go false false same any rest = rest any
    go true false same any rest = cc

same-twice : {X : Type 0} (x : Option X) → option_or x x ≡ x
same-twice None = refl
same-twice (Some x) = refl

-- with a default of the connector's own, that of connector 0 is hidden
hidden : (l d a z h : Bool) → (l ≡ true → h ≡ true) → (l && (d && a)) ≡ (l && (d && (a || (z && not h))))
hidden false d a z h so = refl
hidden true false a z h so = refl
hidden true true true z h so = refl
hidden true true false false h so = refl
hidden true true false true true so = refl
hidden true true false true false so = so refl

turned : (l d a : Bool) → (d && a && l) ≡ (l && (d && a))
turned true true true = refl
turned true true false = refl
turned true false a = refl
turned false true true = refl
turned false true false = refl
turned false false a = refl

-- without one, that of connector 0 counts
not_own : (l d a : Bool) → (d && a && l) ≡ false → (l && (d && a)) ≡ false
not_own l d a none = sym (turned l d a) ∙ none

unhidden : (l d a z h : Bool) → (d && a && l) ≡ false → (l ≡ true → h ≡ false) → (l && (d && z)) ≡ (l && (d && (a || (z && not h))))
unhidden false d a z h none so = refl
unhidden true false a z h none so = refl
unhidden true true true z h none so = cc
unhidden true true false false h none so = refl
unhidden true true false true false none so = refl
unhidden true true false true true none so = so refl

pub one_of_two : (purpose : Purpose) (rows : List Row) (connector level : ℕ)
    → option_or (first_at purpose (own_connector purpose connector) level rows) (first_at purpose (shared_connector purpose connector) level rows)
    ≡ candidate_at purpose rows connector level
one_of_two ChargePointMaxProfile rows connector level = same-twice (candidate_at ChargePointMaxProfile rows connector level)
one_of_two TxProfile rows connector level = same-twice (candidate_at TxProfile rows connector level)
one_of_two TxDefaultProfile rows connector level = go (is_replaced_at rows connector level) refl
  where
    of_row : (row : Row) (b : Bool) → is_replaced_at rows connector level ≡ b → (row.profile.stack_level == level) ≡ true
        → is_replaced_at rows connector row.profile.stack_level ≡ b
    of_row row b is here = ap (λ n. is_replaced_at rows connector n) (eqb-true _ _ here) ∙ is

    go : (b : Bool) → is_replaced_at rows connector level ≡ b
        → option_or (first_at TxDefaultProfile connector level rows) (first_at TxDefaultProfile 0 level rows) ≡ candidate_at TxDefaultProfile rows connector level
    go true is =
        any-found _ _ rows (all-of _ (λ (row : Row). turned (row.profile.stack_level == level) (is_tx_default row.profile.purpose) (row.connector == connector)) rows) is _
        ∙ find-agree _ _ rows (all-of _ (λ (row : Row). hidden (row.profile.stack_level == level) (is_tx_default row.profile.purpose)
        (row.connector == connector) (row.connector == 0) (is_replaced_at rows connector row.profile.stack_level) (of_row row true is)) rows)
    go false is =
        let none = none-passes _ _ (λ (row : Row) no. not_own (row.profile.stack_level == level) (is_tx_default row.profile.purpose) (row.connector == connector) no) rows is in
        let each = none-passes _ _ (λ (row : Row) no. unhidden (row.profile.stack_level == level) (is_tx_default row.profile.purpose)
        (row.connector == connector) (row.connector == 0) (is_replaced_at rows connector row.profile.stack_level) no (of_row row false is)) rows is in
        ap (λ first. option_or first (first_at TxDefaultProfile 0 level rows)) (none-found _ rows none) ∙ find-agree _ _ rows each

pub by_places : (purpose : Purpose) (rows : List Row) (connector : ℕ) (places : List ℕ) (below : ℕ) → below ≤ 100
    → AreCandidatePlaces purpose rows connector places → rows_below rows places below ≡ candidates_below purpose rows connector below
unfolding rows_below candidates_below
by_places purpose rows connector places zero few each = refl
by_places purpose rows connector places (suc level) few each =
    let here = each level (omega arith) in
    let rest = by_places purpose rows connector places level (omega arith) each in
    λ i. cons_option (here i) (rest i)

-- ---- one more row

more-of_level : (purpose : Purpose) (connector level : ℕ) (row : Row) (test : Bool) → is_row_at purpose connector row ≡ test
    → find (λ (r : Row). (r.profile.stack_level == level) && is_row_at purpose connector r) (row ∷ []) ≡ cond test (of_level level row) None
more-of_level purpose connector level row test is = rw is (go (row.profile.stack_level == level) test)
  where
    go : (l t : Bool) → cond (l && t) (Some row) None ≡ cond t (cond l (Some row) None) None
    go true true = refl
    go true false = refl
    go false true = refl
    go false false = refl

or-none : {X : Type 0} (x : Option X) → option_or x None ≡ x
or-none None = refl
or-none (Some x) = refl

-- the first row of a level, with one more row
pub first_more : (purpose : Purpose) (connector level : ℕ) (rows : List Row) (place : ℕ) (row : Row) → place < length rows
    → row ≡ slice_index_or rows place row
    → first_at purpose connector level (take (place + 1) rows)
    ≡ option_or (first_at purpose connector level (take place rows)) (cond (is_row_at purpose connector row) (of_level level row) None)
first_more purpose connector level rows place row inside is =
    ap (first_at purpose connector level) (take_more rows place row inside)
    ∙ find-append _ (take place rows) (slice_index_or rows place row ∷ [])
    ∙ ap (option_or (first_at purpose connector level (take place rows)))
    (ap (λ (r : Row). first_at purpose connector level (r ∷ [])) (sym is) ∙ more-of_level purpose connector level row (is_row_at purpose connector row) refl)

pub passed : (purpose : Purpose) (connector level : ℕ) (rows : List Row) (place : ℕ) (row : Row) → place < length rows
    → row ≡ slice_index_or rows place row → is_row_at purpose connector row ≡ false
    → first_at purpose connector level (take (place + 1) rows) ≡ first_at purpose connector level (take place rows)
passed purpose connector level rows place row inside is fails =
    first_more purpose connector level rows place row inside is
    ∙ ap (λ (b : Bool). option_or (first_at purpose connector level (take place rows)) (cond b (of_level level row) None)) fails
    ∙ or-none _

pub added : (purpose : Purpose) (connector level : ℕ) (rows : List Row) (place : ℕ) (row : Row) → place < length rows
    → row ≡ slice_index_or rows place row → is_row_at purpose connector row ≡ true
    → first_at purpose connector level (take (place + 1) rows)
    ≡ option_or (first_at purpose connector level (take place rows)) (option_and_then (of_level level) (slice_get rows place))
added purpose connector level rows place row inside is passes =
    let found : slice_get rows place ≡ Some row = slice_get_read rows (length rows) place row refl inside is in
    first_more purpose connector level rows place row inside is
    ∙ ap (λ (b : Bool). option_or (first_at purpose connector level (take place rows)) (cond b (of_level level row) None)) passes
    ∙ ap (λ (r : Option Row). option_or (first_at purpose connector level (take place rows)) (option_and_then (of_level level) r)) (sym found)

-- a third option after two
pub option_or-third : {X : Type 0} (x y z : Option X) → option_or (option_or x y) z ≡ option_or x (option_or y z)
option_or-third None y z = refl
option_or-third (Some x) y z = refl
