-- A sweep at the start of a request.
use Rattle.std.proofs.Common.{◌≡◌, ℕ, ◌+◌, ◌<◌, ◌≤◌, ◌^◌, zero, suc, Bool, true, false, List, [], ◌∷◌, ◌++◌, length, filter, map, take, cond, get_or, Option, Some, None, is_some, inl, inr, ◌⊎◌, ⊎_elim, refl, ap, sym, subst, ◌∙◌, arith}
use Rattle.std.specs.List.{AllByRecursion, Contains, sum_by, range_with_len}
use Rattle.std.specs.List.Sorted.{IsPermutation}
use Rattle.std.proofs.lemmas.Bool.{cases_lt}
use Rattle.std.proofs.lemmas.List.{append-nil, map-append, take_more}
use Rattle.std.proofs.lemmas.List.Elements.{filter-append}
use Rattle.std.proofs.lemmas.List.Sums.{sum_by_push}
use Rattle.std.proofs.lemmas.List.Sorted.{Contains-permutation, IsPermutation-sym}
use Rattle.meaning.specs.View.{PointState, active_since}
use Rattle.meaning.specs.declared.cause.Share.{Share}
use Rattle.meaning.specs.Theory.Ranges.{range_more}
use Rattle.sweep_compiler.specs.ByCases.Running.{Running, RunningBound, due_at, bound_now, share_now}
use Rattle.sweep_compiler.specs.ByCases.Queue.{Due}
use Rattle.sweep_compiler.specs.ByCases.Swept.{IsConnectorAtStart, AreConnectorsAtStart, IsWithConnector, AreWaiting, due_in, row_count, shared_now, shares_now}
use Rattle.sweep_compiler.proofs.Passing.{item, contains_cases, contains_more, contains_first}
use Rattle.sweep_compiler.proofs.PassedRows.{shared_small}

-- ---- connectors

zip_push : (state : PointState) (asked last connector : ℕ) (bound : RunningBound) (looked : List ℕ) (bounds : List RunningBound) → AreConnectorsAtStart state asked last looked bounds
    → IsConnectorAtStart state asked last connector bound → AreConnectorsAtStart state asked last (looked ++ connector ∷ []) (bounds ++ bound ∷ [])
zip_push state asked last connector bound [] [] are is = (is, tt)
zip_push state asked last connector bound [] (x ∷ bounds) are is = absurd are
zip_push state asked last connector bound (x ∷ looked) [] are is = absurd are
zip_push state asked last connector bound (x ∷ looked) (y ∷ bounds) are is = (are.0, zip_push state asked last connector bound looked bounds are.1 is)

with_connector : (b : Bool) (state : PointState) (asked last connector : ℕ) (looked : List ℕ) (old new : List RunningBound) → AreConnectorsAtStart state asked last looked old
    → IsWithConnector b state asked last connector old new → AreConnectorsAtStart state asked last (looked ++ cond b (connector ∷ []) []) new
with_connector true state asked last connector looked old new are (bound, is, e) =
    subst (AreConnectorsAtStart state asked last (looked ++ connector ∷ [])) (sym e) (zip_push state asked last connector bound looked old are is)
with_connector false state asked last connector looked old new are e =
    subst (AreConnectorsAtStart state asked last (looked ++ [])) (sym e) (subst (λ (looked : List ℕ). AreConnectorsAtStart state asked last looked old) (sym (append-nil looked)) are)

pub active_more : (state : PointState) (asked last index : ℕ) (old new : List RunningBound)
    → AreConnectorsAtStart state asked last (filter (λ connector. is_some (active_since state connector)) (range_with_len 1 index)) old
    → IsWithConnector (is_some (active_since state (index + 1))) state asked last (index + 1) old new
    → AreConnectorsAtStart state asked last (filter (λ connector. is_some (active_since state connector)) (range_with_len 1 (index + 1))) new
active_more state asked last index old new are with =
    let test = λ (connector : ℕ). is_some (active_since state connector) in
    let list : filter (λ connector. is_some (active_since state connector)) (range_with_len 1 (index + 1))
    ≡ filter (λ connector. is_some (active_since state connector)) (range_with_len 1 index) ++ cond (is_some (active_since state (index + 1))) ((index + 1) ∷ []) [] =
    ap (filter (λ connector. is_some (active_since state connector))) (range_more 1 index (index + 1) (omega arith)) ∙ filter-append (λ connector. is_some (active_since state connector)) (range_with_len 1 index) ((index + 1) ∷ []) in
    subst (λ (looked : List ℕ). AreConnectorsAtStart state asked last looked new) (sym list) (with_connector (is_some (active_since state (index + 1))) state asked last (index + 1) _ old new are with)

-- ---- the sum

pub shared_more : (bounds : List RunningBound) (i : ℕ) (d : RunningBound) → 0 < i → i < length bounds → shared_now (take (i + 1) bounds) ≡ shared_now (take i bounds) + bound_now (get_or bounds i d)
shared_more [] i d some inside = absurd (omega (arith, inside))
shared_more (point ∷ others) zero d some inside = absurd (omega (arith, some))
shared_more (point ∷ others) (suc i) d some inside =
    let one : suc i + 1 ≡ suc (i + 1) = omega arith in
    ap (λ (n : ℕ). shared_now (take n (point ∷ others))) one
    ∙ (ap (sum_by bound_now) (take_more others i d (omega (arith, inside))) ∙ sum_by_push bound_now (take i others) (get_or others i d))

shares_more : (bounds : List RunningBound) (i : ℕ) (d : RunningBound) → 0 < i → i < length bounds → shares_now (take (i + 1) bounds) ≡ shares_now (take i bounds) ++ share_now (get_or bounds i d) ∷ []
shares_more [] i d some inside = absurd (omega (arith, inside))
shares_more (point ∷ others) zero d some inside = absurd (omega (arith, some))
shares_more (point ∷ others) (suc i) d some inside =
    let one : suc i + 1 ≡ suc (i + 1) = omega arith in
    ap (λ (n : ℕ). shares_now (take n (point ∷ others))) one
    ∙ (ap (map share_now) (take_more others i d (omega (arith, inside))) ∙ map-append share_now (take i others) (get_or others i d ∷ []))

pub share_pushed : (bounds : List RunningBound) (i : ℕ) (d : RunningBound) (before after : List Share) (share : Share) → 0 < i → i < length bounds
    → before ≡ shares_now (take i bounds) → share ≡ share_now (get_or bounds i d) → after ≡ before ++ share ∷ [] → after ≡ shares_now (take (i + 1) bounds)
share_pushed bounds i d before after share some inside so_far one added =
    added
    ∙ (ap (λ (share : Share). before ++ share ∷ []) one
    ∙ (ap (λ (shares : List Share). shares ++ share_now (get_or bounds i d) ∷ []) so_far ∙ sym (shares_more bounds i d some inside)))

small_take : (k : ℕ) (bounds : List RunningBound) → AllByRecursion (λ (bound : RunningBound). bound.ceiling < 2 ^ 32) bounds → AllByRecursion (λ (bound : RunningBound). bound.ceiling < 2 ^ 32) (take k bounds)
small_take zero bounds small = tt
small_take (suc k) [] small = tt
small_take (suc k) (bound ∷ others) small = (small.0, small_take k others small.1)

length_take : (k : ℕ) (bounds : List RunningBound) → length (take k bounds) ≤ length bounds
length_take zero bounds = omega arith
length_take (suc k) [] = omega arith
length_take (suc k) (bound ∷ others) = let rest = length_take k others in omega (arith, rest)

pub sum_fits : (bounds : List RunningBound) (k : ℕ) → AllByRecursion (λ (bound : RunningBound). bound.ceiling < 2 ^ 32) bounds → length bounds ≤ 2 ^ 32 → shared_now (take k bounds) < 2 ^ 64
sum_fits bounds k small few = let short = length_take k bounds in shared_small (take k bounds) (small_take k bounds small) (omega (arith, short, few))

-- ---- the rows that wait

pub some_not_none : (instant : ℕ) → ◌≡◌ {A = Option ℕ} None (Some instant) → ⊥
some_not_none instant e = cc

-- a row without a place left
pub waits_not : (bounds : List RunningBound) (many rows : ℕ) (items : List Due) → AreWaiting bounds many rows items → due_in bounds many rows ≡ None → AreWaiting bounds many (rows + 1) items
waits_not bounds many rows items are none = record {
  before = are.before;
  here = λ row instant low is. ⊎_elim
      (λ (less : row < rows). are.here row instant less is)
      (λ (more : rows ≤ row). let same : rows ≡ row = omega (arith, low, more) in absurd (some_not_none instant (sym none ∙ (ap (due_in bounds many) same ∙ is))))
      (cases_lt row rows);
  each = are.each;
}

pub same_instant : (a b : ℕ) → ◌≡◌ {A = Option ℕ} (Some a) (Some b) → a ≡ b
same_instant a b e = cc

-- a row that waits for its next place
pub waits_too : (bounds : List RunningBound) (many rows instant : ℕ) (items after : List Due) → AreWaiting bounds many rows items → due_in bounds many rows ≡ Some instant
    → IsPermutation (record { instant = instant; bound = many; row = rows } ∷ items) after → AreWaiting bounds many (rows + 1) after
waits_too bounds many rows instant items after are due_is p = record {
  before = λ n row other low is. old (item other n row) (are.before n row other low is);
  here = λ row other low is. ⊎_elim
      (λ (less : row < rows). old (item other many row) (are.here row other less is))
      (λ (more : rows ≤ row).
      let same : rows ≡ row = omega (arith, low, more) in
      let at : instant ≡ other = same_instant instant other (sym due_is ∙ (ap (due_in bounds many) same ∙ is)) in
      subst (λ (r : ℕ). Contains after (item other many r)) same (subst (λ (i : ℕ). Contains after (item i many rows)) at
      (Contains-permutation (item instant many rows ∷ items) after (item instant many rows) p (contains_first (item instant many rows) items))))
      (cases_lt row rows);
  each = λ other has. go other (contains_cases (item instant many rows) other items (Contains-permutation after (item instant many rows ∷ items) other (IsPermutation-sym (item instant many rows ∷ items) after p) has));
}
  where
    old : (other : Due) → Contains items other → Contains after other
    old other has = Contains-permutation (item instant many rows ∷ items) after other p (contains_more (item instant many rows) other items has)

    go : (other : Due) → (item instant many rows ≡ other) ⊎ Contains items other → due_in bounds other.bound other.row ≡ Some other.instant
    go other (inl same) = subst (λ (d : Due). due_in bounds d.bound d.row ≡ Some d.instant) same due_is
    go other (inr has) = are.each other has

due_past_row : (runs : List Running) (row : ℕ) → length runs ≤ row → due_at runs row ≡ None
due_past_row [] row past = refl
due_past_row (run ∷ later) zero past = absurd (omega (arith, past))
due_past_row (run ∷ later) (suc row) past = due_past_row later row (omega (arith, past))

pub due_past : (bounds : List RunningBound) (n row : ℕ) → row_count bounds n ≤ row → due_in bounds n row ≡ None
due_past [] n row past = refl
due_past (bound ∷ others) zero row past = due_past_row bound.runs row past
due_past (bound ∷ others) (suc n) row past = due_past others n row past

-- the bound after it
pub next_bound : (bounds : List RunningBound) (many rows : ℕ) (items : List Due) → row_count bounds many ≤ rows → AreWaiting bounds many rows items → AreWaiting bounds (many + 1) 0 items
next_bound bounds many rows items all are = record {
  before = λ n row instant low is. ⊎_elim
      (λ (less : n < many). are.before n row instant less is)
      (λ (more : many ≤ n).
      let same : many ≡ n = omega (arith, low, more) in
      let here : due_in bounds many row ≡ Some instant = ap (λ (k : ℕ). due_in bounds k row) same ∙ is in
      subst (λ (k : ℕ). Contains items (item instant k row)) same (⊎_elim
      (λ (inside : row < rows). are.here row instant inside here)
      (λ (past : rows ≤ row). absurd (some_not_none instant (sym (due_past bounds many row (omega (arith, all, past))) ∙ here)))
      (cases_lt row rows)))
      (cases_lt n many);
  here = λ row instant low is. absurd (omega (arith, low));
  each = are.each;
}
