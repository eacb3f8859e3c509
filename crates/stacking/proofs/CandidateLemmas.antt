-- The candidates collected level by level are the candidates by falling level.
use Rattle.std.proofs.Common.{◌≡◌, ℕ, ◌<◌, ◌≤◌, ◌==◌, zero, suc, Bool, true, false, not, ◌&&◌, ◌||◌, ◌⊎◌, inl, inr, cond, refl, ap, sym, subst, ◌∙◌, List, [], ◌∷◌, filter, Option, Some, None, arith}
use Rattle.std.specs.List.{AllByRecursion, find, cons_option, list_any}
use Rattle.std.proofs.lemmas.Bool.{eqb-true, cases_lt}
use Rattle.std.proofs.lemmas.Bool.Decides.{nat_tests}
use Rattle.profile.specs.declared.purpose.Purpose.{Purpose}
use Rattle.profile.specs.declared.purpose.Purpose.TheVariants.{ChargePointMaxProfile, TxDefaultProfile, TxProfile}
use Rattle.profile.specs.declared.row.Row.{Row}
use Rattle.profile.specs.Purpose.{is_charge_point_max, is_tx_default, is_tx}
use Rattle.profile.specs.Candidates.{is_replaced_at, is_candidate, candidates}
use Rattle.profile.specs.Changes.{is_purpose, is_replaced_by}
use Rattle.stacking.specs.Rows.{AreApart}
use Rattle.stacking.specs.Candidates.{AreStrictlyFalling, rows_of_level, AreByFallingLevel}
use Rattle.stacking.specs.ByCases.Candidates.{is_candidate_at, candidate_at, candidates_below}

-- tests

and-both : (a b : Bool) → (a && b) ≡ true → (a ≡ true) × (b ≡ true)
and-both true b both = (refl, both)
and-both false b both = (both, absurd (false_is_not_true both))
  where
    false_is_not_true : false ≡ true → ⊥
    false_is_not_true e = cc

or-either : (a b : Bool) → (a || b) ≡ true → (a ≡ true) ⊎ (b ≡ true)
or-either true b either = inl refl
or-either false b either = inr either

eqb-same : (n : ℕ) → (n == n) ≡ true
eqb-same n = grind (arith, nat_tests)

is_purpose-same : (purpose : Purpose) → is_purpose purpose purpose ≡ true
is_purpose-same ChargePointMaxProfile = refl
is_purpose-same TxDefaultProfile = refl
is_purpose-same TxProfile = refl

pub all-of : {X : Type 0} (P : X → Type 0) → ((x : X) → P x) → (xs : List X) → AllByRecursion P xs
all-of P each [] = tt
all-of P each (x ∷ xs) = (each x, all-of P each xs)

pub none-passes : {X : Type 0} (P : X → Type 0) (test : X → Bool) → ((x : X) → test x ≡ false → P x) → (xs : List X) → list_any test xs ≡ false → AllByRecursion P xs
none-passes P test each [] none = tt
none-passes {X = X} P test each (x ∷ xs) none = go (test x) refl none (none-passes P test each xs)
  where
    go : (b : Bool) → test x ≡ b → (b || list_any test xs) ≡ false → (list_any test xs ≡ false → AllByRecursion P xs) → P x × AllByRecursion P xs
    go true here none rest = absurd (true_is_not_false none)
      where
        true_is_not_false : true ≡ false → ⊥
        true_is_not_false e = cc
    go false here none rest = (each x here, rest none)

filter-both : {X : Type 0} (p q : X → Bool) (xs : List X) → filter p (filter q xs) ≡ filter (λ x. p x && q x) xs
filter-both p q [] = refl
filter-both {X = X} p q (x ∷ xs) = go (p x) (q x) refl (filter-both p q xs)
  where
    go : (a b : Bool) → p x ≡ a → filter p (filter q xs) ≡ filter (λ y. p y && q y) xs → filter p (cond b (x ∷ filter q xs) (filter q xs)) ≡ cond (a && b) (x ∷ filter (λ y. p y && q y) xs) (filter (λ y. p y && q y) xs)
    go true true here rest = rw here (ap (λ ys. x ∷ ys) rest)
    go true false here rest = rest
    go false true here rest = rw here rest
    go false false here rest = rest

-- rows of one key

pub record HasKey (connector : ℕ) (purpose : Purpose) (level : ℕ) (row : Row) : Type 0 where
  pub at : row.connector ≡ connector
  pub for : row.profile.purpose ≡ purpose
  pub of_level : row.profile.stack_level ≡ level

replaced-by_same : (connector : ℕ) (purpose : Purpose) (level : ℕ) (new row : Row) → HasKey connector purpose level new → HasKey connector purpose level row → is_replaced_by new row ≡ true
replaced-by_same connector purpose level new row h k =
    rw (h.at, h.for, h.of_level, k.at, k.for, k.of_level, eqb-same connector, eqb-same level, is_purpose-same) (go _)
  where
    go : (b : Bool) → (b || true) ≡ true
    go true = refl
    go false = refl

none-more : (test : Row → Bool) (connector : ℕ) (purpose : Purpose) (level : ℕ) (row : Row) (rows : List Row) → HasKey connector purpose level row
    → AllByRecursion (λ r. test r ≡ true → HasKey connector purpose level r) rows → AllByRecursion (λ new. is_replaced_by new row ≡ false) rows → filter test rows ≡ []
none-more test connector purpose level row [] has keys apart = refl
none-more test connector purpose level row (r ∷ rows) has keys apart = go (test r) refl (none-more test connector purpose level row rows has keys.1 apart.1)
  where
    go : (b : Bool) → test r ≡ b → filter test rows ≡ [] → cond b (r ∷ filter test rows) (filter test rows) ≡ []
    go true here rest = let same = replaced-by_same connector purpose level r row (keys.0 here) has in let apart = apart.0 in absurd (bad (sym same ∙ apart))
      where
        bad : true ≡ false → ⊥
        bad e = cc
    go false here rest = rest

-- filtering by a test that only rows of one key pass finds that row
one-passes : (test : Row → Bool) (connector : ℕ) (purpose : Purpose) (level : ℕ) (rows : List Row)
    → AllByRecursion (λ r. test r ≡ true → HasKey connector purpose level r) rows → AreApart rows → filter test rows ≡ cons_option (find test rows) []
one-passes test connector purpose level [] keys apart = refl
one-passes test connector purpose level (row ∷ rows) keys apart = go (test row) refl (one-passes test connector purpose level rows keys.1 apart.1)
  where
    go : (b : Bool) → test row ≡ b → filter test rows ≡ cons_option (find test rows) [] → cond b (row ∷ filter test rows) (filter test rows) ≡ cons_option (cond b (Some row) (find test rows)) []
    go true here rest = ap (λ rs. row ∷ rs) (none-more test connector purpose level row rows (keys.0 here) keys.1 apart.0)
    go false here rest = rest

-- the purposes

charge_point_max-is : (purpose : Purpose) → is_charge_point_max purpose ≡ true → purpose ≡ ChargePointMaxProfile
charge_point_max-is ChargePointMaxProfile is = refl
charge_point_max-is TxDefaultProfile is = cc
charge_point_max-is TxProfile is = cc

tx_default-is : (purpose : Purpose) → is_tx_default purpose ≡ true → purpose ≡ TxDefaultProfile
tx_default-is ChargePointMaxProfile is = cc
tx_default-is TxDefaultProfile is = refl
tx_default-is TxProfile is = cc

tx-is : (purpose : Purpose) → is_tx purpose ≡ true → purpose ≡ TxProfile
tx-is ChargePointMaxProfile is = cc
tx-is TxDefaultProfile is = cc
tx-is TxProfile is = refl

max-keys : (rows : List Row) (connector level : ℕ) (row : Row) → is_candidate_at ChargePointMaxProfile rows connector level row ≡ true → HasKey 0 ChargePointMaxProfile level row
max-keys rows connector level row passes =
    let both = and-both _ _ passes in let more = and-both _ _ both.1 in
    record { at = eqb-true _ _ more.1; for = charge_point_max-is _ more.0; of_level = eqb-true _ _ both.0 }

tx-keys : (rows : List Row) (connector level : ℕ) (row : Row) → is_candidate_at TxProfile rows connector level row ≡ true → HasKey connector TxProfile level row
tx-keys rows connector level row passes =
    let both = and-both _ _ passes in let more = and-both _ _ both.1 in
    record { at = eqb-true _ _ more.1; for = tx-is _ more.0; of_level = eqb-true _ _ both.0 }

-- if the connector has a default of its own, that of connector 0 isn't a candidate
own-keys : (rows : List Row) (connector level : ℕ) → is_replaced_at rows connector level ≡ true → (row : Row)
    → is_candidate_at TxDefaultProfile rows connector level row ≡ true → HasKey connector TxDefaultProfile level row
own-keys rows connector level own row passes =
    let both = and-both _ _ passes in let more = and-both _ _ both.1 in
    let here : row.profile.stack_level ≡ level = eqb-true _ _ both.0 in
    record { at = eqb-true _ _ (go (row.connector == connector) (row.connector == 0) (ap (λ n. is_replaced_at rows connector n) here ∙ own) more.1); for = tx_default-is _ more.0; of_level = here }
  where
    go : (a b : Bool) → is_replaced_at rows connector row.profile.stack_level ≡ true → (a || (b && not (is_replaced_at rows connector row.profile.stack_level))) ≡ true → a ≡ true
    go true b hidden passes = refl
    go false b hidden passes = by (is_replaced_at rows connector row.profile.stack_level) b hidden passes
      where
        by : (h c : Bool) → h ≡ true → (c && not h) ≡ true → false ≡ true
        by true true h p = p
        by true false h p = p
        by false c h p = h

-- if it has none, the candidates are those of connector 0
point-keys : (rows : List Row) (connector level : ℕ) (row : Row)
    → (is_tx_default row.profile.purpose && (row.connector == connector) && (row.profile.stack_level == level)) ≡ false
    → is_candidate_at TxDefaultProfile rows connector level row ≡ true → HasKey 0 TxDefaultProfile level row
point-keys rows connector level row none passes =
    let both = and-both _ _ passes in let more = and-both _ _ both.1 in
    record {
      at = eqb-true _ _ (go (is_tx_default row.profile.purpose)
          (row.connector == connector) (row.profile.stack_level == level)
          (row.connector == 0) _ more.0 both.0 none more.1);
      for = tx_default-is _ more.0;
      of_level =
          eqb-true _ _ both.0;
    }
  where
    go : (d a l z h : Bool) → d ≡ true → l ≡ true → (d && a && l) ≡ false → (a || (z && h)) ≡ true → z ≡ true
    go d a l true h is of_level none passes = refl
    go true true true false h is of_level none passes = sym none
    go true true false false h is of_level none passes = of_level
    go true false l false h is of_level none passes = passes
    go false a l false h is of_level none passes = is

level-one : (purpose : Purpose) (rows : List Row) (connector level : ℕ) → AreApart rows → filter (is_candidate_at purpose rows connector level) rows ≡ cons_option (candidate_at purpose rows connector level) []
level-one ChargePointMaxProfile rows connector level apart =
    one-passes _ 0 ChargePointMaxProfile level rows (all-of _ (max-keys rows connector level) rows) apart
level-one TxProfile rows connector level apart =
    one-passes _ connector TxProfile level rows (all-of _ (tx-keys rows connector level) rows) apart
level-one TxDefaultProfile rows connector level apart = go (is_replaced_at rows connector level) refl
  where
    go : (b : Bool) → is_replaced_at rows connector level ≡ b → filter (is_candidate_at TxDefaultProfile rows connector level) rows ≡ cons_option (candidate_at TxDefaultProfile rows connector level) []
    go true own = one-passes _ connector TxDefaultProfile level rows (all-of _ (own-keys rows connector level own) rows) apart
    go false none = one-passes _ 0 TxDefaultProfile level rows (none-passes _ _ (point-keys rows connector level) rows none) apart

-- the candidates level by level

find-passes : {X : Type 0} (test : X → Bool) (xs : List X) (x : X) → find test xs ≡ Some x → test x ≡ true
find-passes test [] x found = cc
find-passes {X = X} test (y ∷ ys) x found = go (test y) refl found (find-passes test ys x)
  where
    go : (b : Bool) → test y ≡ b → cond b (Some y) (find test ys) ≡ Some x → (find test ys ≡ Some x → test x ≡ true) → test x ≡ true
    go true here found rest = let is : y ≡ x = cc in subst (λ (z : X). test z ≡ true) is here
    go false here found rest = rest found

level-of : (purpose : Purpose) (rows : List Row) (connector level : ℕ) (row : Row) → candidate_at purpose rows connector level ≡ Some row → row.profile.stack_level ≡ level
level-of purpose rows connector level row found =
    let both = and-both _ _ (find-passes (is_candidate_at purpose rows connector level) rows row found) in eqb-true _ _ both.0

of_level-cons : (purpose : Purpose) (rows : List Row) (connector level n : ℕ) (rest : List Row)
    → rows_of_level n (cons_option (candidate_at purpose rows connector level) rest) ≡ cond (level == n) (cons_option (candidate_at purpose rows connector level) (rows_of_level n rest)) (rows_of_level n rest)
of_level-cons purpose rows connector level n rest = go (candidate_at purpose rows connector level) refl
  where
    same : (b : Bool) → rows_of_level n rest ≡ cond b (rows_of_level n rest) (rows_of_level n rest)
    same true = refl
    same false = refl

    go : (found : Option Row) → candidate_at purpose rows connector level ≡ found → rows_of_level n (cons_option found rest) ≡ cond (level == n) (cons_option found (rows_of_level n rest)) (rows_of_level n rest)
    go None is = same (level == n)
    go (Some row) is = ap (λ (m : ℕ). cond (m == n) (row ∷ rows_of_level n rest) (rows_of_level n rest)) (level-of purpose rows connector level row is)

levels-above : (purpose : Purpose) (rows : List Row) (connector below n : ℕ) → below ≤ n → rows_of_level n (candidates_below purpose rows connector below) ≡ []
unfolding candidates_below
levels-above purpose rows connector zero n above = refl
levels-above purpose rows connector (suc level) n above =
    let other : (level == n) ≡ false = grind (arith, nat_tests, above) in
    let rest : level ≤ n = omega (arith, above) in
    of_level-cons purpose rows connector level n (candidates_below purpose rows connector level)
    ∙ (rw other (levels-above purpose rows connector level n rest))

levels-below : (purpose : Purpose) (rows : List Row) (connector below n : ℕ) → n < below → rows_of_level n (candidates_below purpose rows connector below) ≡ cons_option (candidate_at purpose rows connector n) []
unfolding candidates_below
levels-below purpose rows connector zero n under = absurd (go under)
  where
    go : n < zero → ⊥
    go under = omega arith
levels-below purpose rows connector (suc level) n under =
    of_level-cons purpose rows connector level n (candidates_below purpose rows connector level)
    ∙ go (level == n) refl (levels-below purpose rows connector level n)
  where
    go : (b : Bool) → (level == n) ≡ b
        → (n < level → rows_of_level n (candidates_below purpose rows connector level) ≡ cons_option (candidate_at purpose rows connector n) [])
        → cond b (cons_option (candidate_at purpose rows connector level) (rows_of_level n (candidates_below purpose rows connector level))) (rows_of_level n (candidates_below purpose rows connector level))
        ≡ cons_option (candidate_at purpose rows connector n) []
    go true is rest =
        let e : level ≡ n = eqb-true _ _ is in
        let above : level ≤ n = omega (arith, e) in
        rw (levels-above purpose rows connector level n above, e) refl
    go false is rest = let less : n < level = grind (arith, nat_tests, is, under) in rest less

all-below : (purpose : Purpose) (rows : List Row) (connector below : ℕ) → AllByRecursion (λ (row : Row). row.profile.stack_level < below) (candidates_below purpose rows connector below)
unfolding candidates_below
all-below purpose rows connector zero = tt
all-below purpose rows connector (suc level) = go (candidate_at purpose rows connector level) refl (more _ (all-below purpose rows connector level))
  where
    more : (xs : List Row) → AllByRecursion (λ (row : Row). row.profile.stack_level < level) xs → AllByRecursion (λ (row : Row). row.profile.stack_level < suc level) xs
    more [] all = tt
    more (x ∷ xs) all = (omega (arith, all.0), more xs all.1)

    go : (found : Option Row) → candidate_at purpose rows connector level ≡ found
        → AllByRecursion (λ (row : Row). row.profile.stack_level < suc level) (candidates_below purpose rows connector level)
        → AllByRecursion (λ (row : Row). row.profile.stack_level < suc level) (cons_option found (candidates_below purpose rows connector level))
    go None is rest = rest
    go (Some row) is rest = (omega (arith, level-of purpose rows connector level row is), rest)

falling-cons : (row : Row) (rows : List Row) (level : ℕ) → row.profile.stack_level ≡ level → AllByRecursion (λ (r : Row). r.profile.stack_level < level) rows → AreStrictlyFalling rows → AreStrictlyFalling (row ∷ rows)
falling-cons row [] level is below falling = tt
falling-cons row (next ∷ rows) level is below falling = (omega (arith, is, below.0), falling)

below-falling : (purpose : Purpose) (rows : List Row) (connector below : ℕ) → AreStrictlyFalling (candidates_below purpose rows connector below)
unfolding candidates_below
below-falling purpose rows connector zero = tt
below-falling purpose rows connector (suc level) = go (candidate_at purpose rows connector level) refl (below-falling purpose rows connector level)
  where
    go : (found : Option Row) → candidate_at purpose rows connector level ≡ found → AreStrictlyFalling (candidates_below purpose rows connector level)
        → AreStrictlyFalling (cons_option found (candidates_below purpose rows connector level))
    go None is rest = rest
    go (Some row) is rest = falling-cons row _ level (level-of purpose rows connector level row is) (all-below purpose rows connector level) rest

-- no row of a list has a level above those of all its rows
high-none : (purpose : Purpose) (rows : List Row) (connector n above : ℕ) → above ≤ n
    → AllByRecursion (λ (row : Row). row.profile.stack_level < above) rows
    → (all : List Row) → filter (is_candidate_at purpose all connector n) rows ≡ []
high-none purpose [] connector n above high below all = refl
high-none purpose (row ∷ rows) connector n above high below all =
    let other : (row.profile.stack_level == n) ≡ false = grind (arith, nat_tests, below.0, high) in
    rw other (high-none purpose rows connector n above high below.1 all)

pub by-level : (purpose : Purpose) (rows : List Row) (connector above : ℕ)
    → AllByRecursion (λ (row : Row). row.profile.stack_level < above) rows → AreApart rows
    → AreByFallingLevel (candidates purpose rows connector) (candidates_below purpose rows connector above)
by-level purpose rows connector above below apart = record {
  falling = below-falling purpose rows connector above;
  same = λ n. go n (cases_lt n above) ∙ sym (filter-both (λ (row : Row). row.profile.stack_level == n) (is_candidate purpose rows connector) rows);
}
  where
    go : (n : ℕ) → (n < above) ⊎ (above ≤ n) → rows_of_level n (candidates_below purpose rows connector above) ≡ filter (is_candidate_at purpose rows connector n) rows
    go n (inl under) = levels-below purpose rows connector above n under ∙ sym (level-one purpose rows connector n apart)
    go n (inr high) =
        levels-above purpose rows connector above n high ∙ sym (high-none purpose rows connector n above high below rows)
