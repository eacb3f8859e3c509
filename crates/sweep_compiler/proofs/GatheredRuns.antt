-- The gathered rows are in falling order of rank.
use Rattle.std.proofs.Common.{◌≡◌, ℕ, ◌+◌, ◌<◌, ◌≤◌, ◌==◌, Bool, true, false, ◌&&◌, List, [], ◌∷◌, ◌++◌, map, filter, cond, refl, ap, sym, subst, arith}
use Rattle.std.specs.List.{AllByRecursion}
use Rattle.std.proofs.lemmas.Bool.{eq-eqb}
use Rattle.std.proofs.lemmas.Bool.Decides.{nat_tests}
use Rattle.profile.specs.declared.purpose.Purpose.{Purpose}
use Rattle.profile.specs.declared.purpose.Purpose.TheVariants.{ChargePointMaxProfile, TxDefaultProfile, TxProfile}
use Rattle.profile.specs.declared.row.Row.{Row}
use Rattle.profile.specs.Limits.{max_stack_level}
use Rattle.profile.specs.Purpose.{is_charge_point_max, is_tx_default, is_tx}
use Rattle.profile.specs.Candidates.{is_candidate}
use Rattle.stacking.specs.Candidates.{AreStrictlyFalling, AreByFallingLevel, rows_of_level}
use Rattle.meaning.specs.View.{PointState, active_since}
use Rattle.meaning.specs.Prevailing.{counted, has_its_transaction}
use Rattle.sweep_compiler.specs.ByCases.Running.{Running, running_from, rank, rank_by, rank_running, AreFalling}
use Rattle.sweep_compiler.specs.ByCases.Swept.{AreRunsOf}
use Rattle.sweep_compiler.proofs.Prevailing.{rows_below, falling_tail}

-- ---- properties of the candidates are properties of them by falling level

all_filter : {X : Type 0} (P : X → Type 0) (test : X → Bool) (xs : List X) → AllByRecursion P xs → AllByRecursion P (filter test xs)
all_filter P test [] all = tt
all_filter P test (x ∷ xs) all = go (test x) all.0 (all_filter P test xs all.1)
  where
    go : (b : Bool) → P x → AllByRecursion P (filter test xs) → AllByRecursion P (cond b (x ∷ filter test xs) (filter test xs))
    go true here rest = (here, rest)
    go false here rest = rest

each_level : (P : Row → Type 0) (rows : List Row) → ((level : ℕ) → AllByRecursion P (rows_of_level level rows)) → AllByRecursion P rows
each_level P [] h = tt
each_level P (row ∷ rows) h = (
  first (row.profile.stack_level == row.profile.stack_level) (eq-eqb row.profile.stack_level row.profile.stack_level refl) (h row.profile.stack_level),
  each_level P rows (λ level. rest level (row.profile.stack_level == level) (h level)),
)
  where
    first : (b : Bool) → b ≡ true → AllByRecursion P (cond b (row ∷ rows_of_level row.profile.stack_level rows) (rows_of_level row.profile.stack_level rows)) → P row
    first true is all = all.0
    first false is all = cc

    rest : (level : ℕ) (b : Bool) → AllByRecursion P (cond b (row ∷ rows_of_level level rows) (rows_of_level level rows)) → AllByRecursion P (rows_of_level level rows)
    rest level true all = all.1
    rest level false all = all

pub all_sorted : (P : Row → Type 0) (rows sorted : List Row) → AreByFallingLevel rows sorted → AllByRecursion P rows → AllByRecursion P sorted
all_sorted P rows sorted are all =
    each_level P sorted (λ level. subst (AllByRecursion P) (sym (are.same level)) (all_filter P (λ (row : Row). row.profile.stack_level == level) rows all))

passes : {X : Type 0} (test : X → Bool) (xs : List X) → AllByRecursion (λ x. test x ≡ true) (filter test xs)
passes test [] = tt
passes test (x ∷ xs) = go (test x) refl (passes test xs)
  where
    go : (b : Bool) → test x ≡ b → AllByRecursion (λ x. test x ≡ true) (filter test xs) → AllByRecursion (λ x. test x ≡ true) (cond b (x ∷ filter test xs) (filter test xs))
    go true is rest = (is, rest)
    go false is rest = rest

-- ---- the purposes of candidates

abbrev IsOfRank : Bool → Row → Type 0
IsOfRank transaction row = is_tx row.profile.purpose ≡ transaction

each_is : (P Q : Row → Type 0) → ((row : Row) → P row → Q row) → (rows : List Row) → AllByRecursion P rows → AllByRecursion Q rows
each_is P Q so [] all = tt
each_is P Q so (row ∷ rows) all = (so row all.0, each_is P Q so rows all.1)

first_true : (a b : Bool) → (a && b) ≡ true → a ≡ true
first_true true b h = refl
first_true false b h = cc

max_is_none : (purpose : Purpose) → is_charge_point_max purpose ≡ true → is_tx purpose ≡ false
max_is_none ChargePointMaxProfile h = refl
max_is_none TxDefaultProfile h = refl
max_is_none TxProfile h = cc

default_is_none : (purpose : Purpose) → is_tx_default purpose ≡ true → is_tx purpose ≡ false
default_is_none ChargePointMaxProfile h = refl
default_is_none TxDefaultProfile h = refl
default_is_none TxProfile h = cc

most_ranks : (state : PointState) → AllByRecursion (IsOfRank false) (counted ChargePointMaxProfile state 0)
most_ranks state = each_is _ (IsOfRank false) (λ row h. max_is_none row.profile.purpose (first_true _ _ h)) _ (passes (is_candidate ChargePointMaxProfile state.rows 0) state.rows)

default_ranks : (state : PointState) (connector : ℕ) → AllByRecursion (IsOfRank false) (counted TxDefaultProfile state connector)
default_ranks state connector = each_is _ (IsOfRank false) (λ row h. default_is_none row.profile.purpose (first_true _ _ h)) _ (passes (is_candidate TxDefaultProfile state.rows connector) state.rows)

own_ranks : (state : PointState) (connector : ℕ) → AllByRecursion (IsOfRank true) (counted TxProfile state connector)
own_ranks state connector = go (has_its_transaction TxProfile (active_since state connector))
  where
    go : (b : Bool) → AllByRecursion (IsOfRank true) (cond b (filter (is_candidate TxProfile state.rows connector) state.rows) [])
    go true = each_is _ (IsOfRank true) (λ row h. first_true _ _ h) _ (passes (is_candidate TxProfile state.rows connector) state.rows)
    go false = tt

-- ---- by falling rank

rank_is : (row : Row) (transaction : Bool) → IsOfRank transaction row → rank row ≡ rank_by transaction row.profile.stack_level
rank_is row transaction is = ap (λ (b : Bool). rank_by b row.profile.stack_level) is

lower_rank : (transaction : Bool) (low high : ℕ) → low < high → rank_by transaction low < rank_by transaction high
lower_rank true low high less = omega (arith, less)
lower_rank false low high less = less

ranks_below : (transaction : Bool) (state : PointState) (connector asked last : ℕ) (top : Row) (rows : List Row) → IsOfRank transaction top → AllByRecursion (IsOfRank transaction) rows
    → AllByRecursion (λ (low : Row). low.profile.stack_level < top.profile.stack_level) rows
    → AllByRecursion (λ (low : Running). rank_running low < rank top) (map (running_from state connector asked last) rows)
ranks_below transaction state connector asked last top [] is all below = tt
ranks_below transaction state connector asked last top (row ∷ rows) is all below =
    let a = rank_is row transaction all.0 in
    let b = rank_is top transaction is in
    let less = lower_rank transaction row.profile.stack_level top.profile.stack_level below.0 in
    (omega (arith, a, b, less), ranks_below transaction state connector asked last top rows is all.1 below.1)

one_purpose : (transaction : Bool) (state : PointState) (connector asked last : ℕ) (rows : List Row) → AreStrictlyFalling rows → AllByRecursion (IsOfRank transaction) rows
    → AreFalling (map (running_from state connector asked last) rows)
one_purpose transaction state connector asked last [] falling all = tt
one_purpose transaction state connector asked last (row ∷ rows) falling all = (
  ranks_below transaction state connector asked last row rows all.0 all.1 (rows_below row rows falling),
  one_purpose transaction state connector asked last rows (falling_tail row rows falling) all.1,
)

pub point_falls : (state : PointState) (asked last : ℕ) (runs : List Running) → AreRunsOf ChargePointMaxProfile state 0 asked last runs → AreFalling runs
point_falls state asked last runs are =
    subst AreFalling (sym are.runs_are)
    (one_purpose false state 0 asked last are.rows are.rows_are.falling (all_sorted (IsOfRank false) _ are.rows are.rows_are (most_ranks state)))

-- ---- two purposes

append_below : (top : ℕ) (xs ys : List Running) → AllByRecursion (λ (low : Running). rank_running low < top) xs → AllByRecursion (λ (low : Running). rank_running low < top) ys
    → AllByRecursion (λ (low : Running). rank_running low < top) (xs ++ ys)
append_below top [] ys all rest = rest
append_below top (x ∷ xs) ys all rest = (all.0, append_below top xs ys all.1 rest)

all_lower : (xs ys : List Running) (least : ℕ) → AllByRecursion (λ (high : Running). least ≤ rank_running high) xs → AllByRecursion (λ (low : Running). rank_running low < least) ys
    → AreFalling xs → AreFalling ys → AreFalling (xs ++ ys)
all_lower [] ys least high low falling rest = rest
all_lower (x ∷ xs) ys least high low falling rest =
    (append_below (rank_running x) xs ys falling.0 (weaker ys low), all_lower xs ys least high.1 low falling.1 rest)
  where
    weaker : (ys : List Running) → AllByRecursion (λ (low : Running). rank_running low < least) ys → AllByRecursion (λ (low : Running). rank_running low < rank_running x) ys
    weaker [] low = tt
    weaker (y ∷ ys) low = let a = high.0 in let b = low.0 in (omega (arith, a, b), weaker ys low.1)

high_ranks : (state : PointState) (connector asked last : ℕ) (rows : List Row) → AllByRecursion (IsOfRank true) rows
    → AllByRecursion (λ (high : Running). max_stack_level + 1 ≤ rank_running high) (map (running_from state connector asked last) rows)
high_ranks state connector asked last [] all = tt
high_ranks state connector asked last (row ∷ rows) all = let is = rank_is row true all.0 in (omega (arith, is), high_ranks state connector asked last rows all.1)

low_ranks : (state : PointState) (connector asked last : ℕ) (rows : List Row) → AllByRecursion (IsOfRank false) rows
    → AllByRecursion (λ (low : Running). rank_running low < max_stack_level + 1) (map (running_from state connector asked last) rows)
low_ranks state connector asked last [] all = tt
low_ranks state connector asked last (row ∷ rows) all =
    let is = rank_is row false all.0 in
    let level = row.profile.low in
    let below : row.profile.stack_level ≤ max_stack_level = grind (arith, nat_tests, level) in
    (omega (arith, is, below), low_ranks state connector asked last rows all.1)

pub connector_falls : (state : PointState) (connector asked last : ℕ) (own default : List Running) → AreRunsOf TxProfile state connector asked last own → AreRunsOf TxDefaultProfile state connector asked last default
    → AreFalling (own ++ default)
connector_falls state connector asked last own default own_are default_are =
    let own_all = all_sorted (IsOfRank true) _ own_are.rows own_are.rows_are (own_ranks state connector) in
    let default_all = all_sorted (IsOfRank false) _ default_are.rows default_are.rows_are (default_ranks state connector) in
    all_lower own default (max_stack_level + 1)
    (subst (AllByRecursion (λ (high : Running). max_stack_level + 1 ≤ rank_running high)) (sym own_are.runs_are) (high_ranks state connector asked last own_are.rows own_all))
    (subst (AllByRecursion (λ (low : Running). rank_running low < max_stack_level + 1)) (sym default_are.runs_are) (low_ranks state connector asked last default_are.rows default_all))
    (subst AreFalling (sym own_are.runs_are) (one_purpose true state connector asked last own_are.rows own_are.rows_are.falling own_all))
    (subst AreFalling (sym default_are.runs_are) (one_purpose false state connector asked last default_are.rows default_are.rows_are.falling default_all))
