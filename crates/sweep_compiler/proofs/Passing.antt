-- The invariant of a sweep when a row passes its next place.
use Rattle.std.proofs.Common.{◌≡◌, ℕ, ◌<◌, ◌≤◌, ◌^◌, ◌==◌, ◌≢◌, zero, suc, Bool, true, false, List, [], ◌∷◌, length, map, Option, Some, None, inl, inr, ◌⊎◌, refl, ap, sym, subst, ◌∙◌, arith}
use Rattle.std.specs.List.{AllByRecursion, AllZip, Contains}
use Rattle.std.specs.List.Sorted.{IsPermutation}
use Rattle.std.proofs.lemmas.Bool.Decides.{nat_tests}
use Rattle.std.proofs.lemmas.List.Sorted.{Contains-permutation, IsPermutation-sym}
use Rattle.recurrence.specs.declared.place.Place.{Place}
use Rattle.recurrence.specs.Theory.Places.{next_of}
use Rattle.meaning.specs.View.{PointState}
use Rattle.sweep_compiler.specs.Places.{is_place_asked}
use Rattle.sweep_compiler.specs.ByCases.Seen.{is_place_seen}
use Rattle.sweep_compiler.specs.ByCases.Running.{Running, RunningBound, seen_running, places_left, due, first_due, due_at, passed, passed_by, passed_at, bound_passed}
use Rattle.sweep_compiler.specs.ByCases.Queue.{Due}
use Rattle.sweep_compiler.specs.ByCases.Swept.{IsConnectorBound, AreBounds, EachRow, row_count, due_in, passed_in, shared_now, IsPassedUpTo, IsWaiting, IsSwept}

-- ---- unchanged parts

seen_passed : (run : Running) → seen_running (passed run) ≡ seen_running run
seen_passed run = go (due run)
  where
    go : (next : Option ℕ) → seen_running (passed_by next run) ≡ seen_running run
    go None = refl
    go (Some next) = refl

seen_passed_at : (n : ℕ) (runs : List Running) → map seen_running (passed_at n runs) ≡ map seen_running runs
seen_passed_at n [] = refl
seen_passed_at zero (run ∷ later) = ap (λ seen. seen ∷ map seen_running later) (seen_passed run)
seen_passed_at (suc n) (run ∷ later) = ap (λ seen. seen_running run ∷ seen) (seen_passed_at n later)

length_passed_at : (n : ℕ) (runs : List Running) → length (passed_at n runs) ≡ length runs
length_passed_at n [] = refl
length_passed_at zero (run ∷ later) = refl
length_passed_at (suc n) (run ∷ later) = ap suc (length_passed_at n later)

connector_kept : (state : PointState) (asked connector row : ℕ) (bound : RunningBound) → IsConnectorBound state asked connector bound → IsConnectorBound state asked connector (bound_passed row bound)
connector_kept state asked connector row bound is = record {
  own = is.own;
  default = is.default;
  number = is.number;
  ceiling = is.ceiling;
  own_is = is.own_is;
  default_is = is.default_is;
  runs = seen_passed_at row bound.runs ∙ is.runs;
}

connectors_kept : (state : PointState) (asked n row : ℕ) (looked : List ℕ) (bounds : List RunningBound) → AllZip (λ connector bound. IsConnectorBound state asked connector bound) looked bounds
    → AllZip (λ connector bound. IsConnectorBound state asked connector bound) looked (passed_in n row bounds)
connectors_kept state asked n row [] [] are = are
connectors_kept state asked n row [] (bound ∷ others) are = absurd are
connectors_kept state asked n row (connector ∷ looked) [] are = absurd are
connectors_kept state asked zero row (connector ∷ looked) (bound ∷ others) are = (connector_kept state asked connector row bound are.0, are.1)
connectors_kept state asked (suc n) row (connector ∷ looked) (bound ∷ others) are = (are.0, connectors_kept state asked n row looked others are.1)

bounds_kept : (state : PointState) (connector asked n row : ℕ) (bounds : List RunningBound) → AreBounds state connector asked bounds → AreBounds state connector asked (passed_in n row bounds)
bounds_kept state connector asked n row [] are = absurd are
bounds_kept state connector asked zero row (point ∷ others) are = (
  record {
    most = are.0.most;
    ceiling = are.0.ceiling;
    most_is = are.0.most_is;
    runs = seen_passed_at row point.runs ∙ are.0.runs;
  },
  are.1,
)
bounds_kept state connector asked (suc n) row (point ∷ others) are = (are.0, connectors_kept state asked n row _ others are.1)

pub small_kept : (n row : ℕ) (bounds : List RunningBound) → AllByRecursion (λ (bound : RunningBound). bound.ceiling < 2 ^ 32) bounds → AllByRecursion (λ (bound : RunningBound). bound.ceiling < 2 ^ 32) (passed_in n row bounds)
small_kept n row [] small = tt
small_kept zero row (bound ∷ others) small = (small.0, small.1)
small_kept (suc n) row (bound ∷ others) small = (small.0, small_kept n row others small.1)

pub length_kept : (n row : ℕ) (bounds : List RunningBound) → length (passed_in n row bounds) ≡ length bounds
length_kept n row [] = refl
length_kept zero row (bound ∷ others) = refl
length_kept (suc n) row (bound ∷ others) = ap suc (length_kept n row others)

pub count_kept : (n row k : ℕ) (bounds : List RunningBound) → row_count (passed_in n row bounds) k ≡ row_count bounds k
count_kept n row k [] = refl
count_kept zero row zero (bound ∷ others) = length_passed_at row bound.runs
count_kept zero row (suc k) (bound ∷ others) = refl
count_kept (suc n) row zero (bound ∷ others) = refl
count_kept (suc n) row (suc k) (bound ∷ others) = count_kept n row k others

-- ---- the instants at which rows are due

due_other_row : (n row : ℕ) (runs : List Running) → (row ≡ n → ⊥) → due_at (passed_at n runs) row ≡ due_at runs row
due_other_row n row [] apart = refl
due_other_row zero zero (run ∷ later) apart = absurd (apart refl)
due_other_row zero (suc row) (run ∷ later) apart = refl
due_other_row (suc n) zero (run ∷ later) apart = refl
due_other_row (suc n) (suc row) (run ∷ later) apart = due_other_row n row later (λ e. apart (ap suc e))

due_other : (n row k other : ℕ) (bounds : List RunningBound) → (k ≡ n → other ≡ row → ⊥) → due_in (passed_in n row bounds) k other ≡ due_in bounds k other
due_other n row k other [] apart = refl
due_other zero row zero other (bound ∷ others) apart = due_other_row row other bound.runs (apart refl)
due_other zero row (suc k) other (bound ∷ others) apart = refl
due_other (suc n) row zero other (bound ∷ others) apart = refl
due_other (suc n) row (suc k) other (bound ∷ others) apart = due_other n row k other others (λ e. apart (ap suc e))

-- ---- rows that have passed their places

passed_run : (state : PointState) (connector asked last at : ℕ) (run : Running) → due run ≡ Some at → IsPassedUpTo state connector asked last at run → IsPassedUpTo state connector asked last at (passed run)
passed_run state connector asked last at run is h =
    subst (λ (next : Option ℕ). IsPassedUpTo state connector asked last at (passed_by next run)) (sym is)
    (record { since = omega arith; last_is = h.last_is; speaks = h.speaks })

passed_runs : (state : PointState) (connector asked last at n : ℕ) (runs : List Running) → due_at runs n ≡ Some at → AllByRecursion (IsPassedUpTo state connector asked last at) runs
    → AllByRecursion (IsPassedUpTo state connector asked last at) (passed_at n runs)
passed_runs state connector asked last at n [] is h = tt
passed_runs state connector asked last at zero (run ∷ later) is h = (passed_run state connector asked last at run is h.0, h.1)
passed_runs state connector asked last at (suc n) (run ∷ later) is h = (h.0, passed_runs state connector asked last at n later is h.1)

passed_kept : (state : PointState) (connector asked last at n row : ℕ) (bounds : List RunningBound) → due_in bounds n row ≡ Some at → EachRow (IsPassedUpTo state connector asked last at) bounds
    → EachRow (IsPassedUpTo state connector asked last at) (passed_in n row bounds)
passed_kept state connector asked last at n row [] is h = tt
passed_kept state connector asked last at zero row (bound ∷ others) is h = (passed_runs state connector asked last at row bound.runs is h.0, h.1)
passed_kept state connector asked last at (suc n) row (bound ∷ others) is h = (h.0, passed_kept state connector asked last at n row others is h.1)

-- ---- the next place of a row that has passed one

pub record IsNextPlace (state : PointState) (connector asked last at next : ℕ) : Type 0 where
  pub later : at < next
  pub within : next ≤ last
  pub place : is_place_asked state connector asked next ≡ true

same_instant : (a b : ℕ) → ◌≡◌ {A = Option ℕ} (Some a) (Some b) → a ≡ b
same_instant a b e = cc

next_place : (state : PointState) (connector asked last at next : ℕ) (run : Running) → due run ≡ Some at → IsPassedUpTo state connector asked last at run → due (passed run) ≡ Some next
    → IsNextPlace state connector asked last at next
next_place state connector asked last at next run is h again =
    let there : Running = record { row = run.row; base = run.base; since = at; last = run.last } in
    go there (places_left there) refl refl refl refl (ap (λ (found : Option ℕ). due (passed_by found run)) (sym is) ∙ again)
  where
    go : (there : Running) (left : List Place) → places_left there ≡ left → seen_running there ≡ seen_running run → there.since ≡ at → there.last ≡ run.last → due there ≡ Some next → IsNextPlace state connector asked last at next
    go there [] left seen since last_is due_is = absurd (none (sym (ap first_due left) ∙ due_is))
      where
        none : ◌≡◌ {A = Option ℕ} None (Some next) → ⊥
        none e = cc
    go there (place ∷ others) left seen since last_is due_is =
        let facts = next_of there.row.profile there.base there.since there.last place others left in
        let same : place.instant ≡ next = same_instant place.instant next (sym (ap first_due left) ∙ due_is) in
        let end = h.last_is in
        let past = facts.later in
        let upto = facts.within in
        record {
          later = omega (arith, past, since, same);
          within = omega (arith, upto, last_is, end, same);
          place = h.speaks next (ap (λ x. is_place_seen next x) (sym seen) ∙ (ap (λ (n : ℕ). is_place_seen n (seen_running there)) (sym same) ∙ facts.is_place));
        }

next_of_runs : (state : PointState) (connector asked last at next n : ℕ) (runs : List Running) → due_at runs n ≡ Some at → AllByRecursion (IsPassedUpTo state connector asked last at) runs
    → due_at (passed_at n runs) n ≡ Some next → IsNextPlace state connector asked last at next
next_of_runs state connector asked last at next n [] is h again = cc
next_of_runs state connector asked last at next zero (run ∷ later) is h again = next_place state connector asked last at next run is h.0 again
next_of_runs state connector asked last at next (suc n) (run ∷ later) is h again = next_of_runs state connector asked last at next n later is h.1 again

pub next_in : (state : PointState) (connector asked last at next n row : ℕ) (bounds : List RunningBound) → due_in bounds n row ≡ Some at → EachRow (IsPassedUpTo state connector asked last at) bounds
    → due_in (passed_in n row bounds) n row ≡ Some next → IsNextPlace state connector asked last at next
next_in state connector asked last at next n row [] is h again = cc
next_in state connector asked last at next zero row (bound ∷ others) is h again = next_of_runs state connector asked last at next row bound.runs is h.0 again
next_in state connector asked last at next (suc n) row (bound ∷ others) is h again = next_in state connector asked last at next n row others is h.1 again

-- ---- the rows that wait

pub contains_cases : (x y : Due) (items : List Due) → Contains (x ∷ items) y → (x ≡ y) ⊎ Contains items y
contains_cases x y items (zero, inside, is) = inl is
contains_cases x y items (suc k, inside, is) = inr (k, omega (arith, inside), is)

pub contains_more : (x y : Due) (items : List Due) → Contains items y → Contains (x ∷ items) y
contains_more x y items (k, inside, is) = (suc k, omega (arith, inside), is)

pub contains_first : (x : Due) (items : List Due) → Contains (x ∷ items) x
contains_first x items = (0, omega arith, refl)

abbrev pub item : ℕ → ℕ → ℕ → Due
item instant n row = record { instant = instant; bound = n; row = row }

-- after one was removed, the others wait as before
still_waits : (items rest : List Due) (at n row : ℕ) (other : Due) → IsPermutation items (item at n row ∷ rest) → Contains items other → (other.bound ≡ n → other.row ≡ row → ⊥) → Contains rest other
still_waits items rest at n row other p has apart = go (contains_cases (item at n row) other rest (Contains-permutation items (item at n row ∷ rest) other p has))
  where
    go : (item at n row ≡ other) ⊎ Contains rest other → Contains rest other
    go (inl same) = absurd (apart (sym (ap (λ (d : Due). d.bound) same)) (sym (ap (λ (d : Due). d.row) same)))
    go (inr has) = has

waited : (items rest : List Due) (taken other : Due) → IsPermutation items (taken ∷ rest) → Contains rest other → Contains items other
waited items rest taken other p has = Contains-permutation (taken ∷ rest) items other (IsPermutation-sym items (taken ∷ rest) p) (contains_more taken other rest has)

-- a row that is no longer due
pub swept_stale : (state : PointState) (connector asked last at : ℕ) (bounds : List RunningBound) (items rest : List Due) (sum n row : ℕ) → IsSwept state connector asked last at bounds items sum
    → IsPermutation items (item at n row ∷ rest) → (due_in bounds n row ≡ Some at → ⊥) → IsSwept state connector asked last at bounds rest sum
swept_stale state connector asked last at bounds items rest sum n row swept p stale = record {
  gathered = swept.gathered;
  small = swept.small;
  few = swept.few;
  sum_is = swept.sum_is;
  from = swept.from;
  passed = swept.passed;
  waits = λ k other instant is. go k other instant is (contains_cases (item at n row) (item instant k other) rest (Contains-permutation items (item at n row ∷ rest) (item instant k other) p (swept.waits k other instant is)));
  each = λ other has. swept.each other (waited items rest (item at n row) other p has);
}
  where
    go : (k other instant : ℕ) → due_in bounds k other ≡ Some instant → (item at n row ≡ item instant k other) ⊎ Contains rest (item instant k other) → Contains rest (item instant k other)
    go k other instant is (inl same) =
        let a : at ≡ instant = ap (λ (d : Due). d.instant) same in
        let b : n ≡ k = ap (λ (d : Due). d.bound) same in
        let e : row ≡ other = ap (λ (d : Due). d.row) same in
        absurd (stale (ap (λ (j : ℕ). due_in bounds j row) b ∙ (ap (due_in bounds k) e ∙ (is ∙ ap (λ (i : ℕ). Some i) (sym a)))))
    go k other instant is (inr has) = has

-- the queue after a row has passed: the row again, if it has another place
abbrev pub IsPutBack : Option ℕ → ℕ → ℕ → List Due → List Due → Type 0
IsPutBack None n row rest after = after ≡ rest
IsPutBack (Some next) n row rest after = IsPermutation (record { instant = next; bound = n; row = row } ∷ rest) after

put_back_has : (next : Option ℕ) (n row : ℕ) (rest after : List Due) (other : Due) → IsPutBack next n row rest after → Contains rest other → Contains after other
put_back_has None n row rest after other is has = subst (λ (items : List Due). Contains items other) (sym is) has
put_back_has (Some next) n row rest after other is has = Contains-permutation (item next n row ∷ rest) after other is (contains_more (item next n row) other rest has)

put_back_cases : (next : Option ℕ) (n row : ℕ) (rest after : List Due) (other : Due) → IsPutBack next n row rest after → Contains after other
    → (((instant : ℕ) × (next ≡ Some instant) × (item instant n row ≡ other)) ⊎ Contains rest other)
put_back_cases None n row rest after other is has = inr (subst (λ (items : List Due). Contains items other) is has)
put_back_cases (Some next) n row rest after other is has = go (contains_cases (item next n row) other rest (Contains-permutation after (item next n row ∷ rest) other (IsPermutation-sym (item next n row ∷ rest) after is) has))
  where
    go : (item next n row ≡ other) ⊎ Contains rest other → (((instant : ℕ) × (◌≡◌ {A = Option ℕ} (Some next) (Some instant)) × (item instant n row ≡ other)) ⊎ Contains rest other)
    go (inl same) = inl (next, refl, same)
    go (inr has) = inr has

pub swept_passed : (state : PointState) (connector asked last at : ℕ) (bounds : List RunningBound) (items rest after : List Due) (sum more n row : ℕ) (next : Option ℕ)
    → IsSwept state connector asked last at bounds items sum → IsPermutation items (item at n row ∷ rest) → due_in bounds n row ≡ Some at
    → next ≡ due_in (passed_in n row bounds) n row → IsPutBack next n row rest after → more ≡ shared_now (passed_in n row bounds)
    → IsSwept state connector asked last at (passed_in n row bounds) after more
swept_passed state connector asked last at bounds items rest after sum more n row next swept p is next_is back more_is = record {
  gathered = bounds_kept state connector asked n row bounds swept.gathered;
  small = small_kept n row bounds swept.small;
  few = let few = swept.few in omega (arith, few, length_kept n row bounds);
  sum_is = more_is;
  from = swept.from;
  passed = passed_kept state connector asked last at n row bounds is swept.passed;
  waits = λ k other instant due_is. waits k other instant due_is (k == n) (other == row) refl refl;
  each = λ other has. each other (put_back_cases next n row rest after other back has);
}
  where
    taken : Contains items (item at n row)
    taken = Contains-permutation (item at n row ∷ rest) items (item at n row) (IsPermutation-sym items (item at n row ∷ rest) p) (contains_first (item at n row) rest)

    there : (instant : ℕ) → next ≡ Some instant → Contains after (item instant n row)
    there instant e = Contains-permutation (item instant n row ∷ rest) after (item instant n row) (subst (λ (next : Option ℕ). IsPutBack next n row rest after) e back) (contains_first (item instant n row) rest)

    others : (k other instant : ℕ) → due_in (passed_in n row bounds) k other ≡ Some instant → (k ≡ n → other ≡ row → ⊥) → Contains after (item instant k other)
    others k other instant due_is apart =
        put_back_has next n row rest after (item instant k other) back
        (still_waits items rest at n row (item instant k other) p (swept.waits k other instant (sym (due_other n row k other bounds apart) ∙ due_is)) apart)

    waits : (k other instant : ℕ) → due_in (passed_in n row bounds) k other ≡ Some instant → (b d : Bool) → (k == n) ≡ b → (other == row) ≡ d → Contains after (item instant k other)
    waits k other instant due_is true true same same_row =
        let e : n ≡ k = grind (arith, nat_tests, same) in
        let f : row ≡ other = grind (arith, nat_tests, same_row) in
        let due_here : due_in (passed_in n row bounds) n row ≡ Some instant = ap (λ (j : ℕ). due_in (passed_in n row bounds) j row) e ∙ (ap (due_in (passed_in n row bounds) k) f ∙ due_is) in
        subst (λ (i : ℕ). Contains after (item instant k i)) f (subst (λ (j : ℕ). Contains after (item instant j row)) e (there instant (next_is ∙ due_here)))
    waits k other instant due_is true false same apart = others k other instant due_is (λ e f. let no : other ≢ row = grind (arith, nat_tests, apart) in no f)
    waits k other instant due_is false d apart any = others k other instant due_is (λ e f. let no : k ≢ n = grind (arith, nat_tests, apart) in no e)

    each : (other : Due) → ((instant : ℕ) × (next ≡ Some instant) × (item instant n row ≡ other)) ⊎ Contains rest other → IsWaiting state connector asked last at (passed_in n row bounds) other
    each other (inl (instant, e, same)) =
        let facts = next_in state connector asked last at instant n row bounds is swept.passed (sym next_is ∙ e) in
        let old = swept.each (item at n row) taken in
        subst (λ (d : Due). IsWaiting state connector asked last at (passed_in n row bounds) d) same
        (record {
          later = let past = facts.later in omega (arith, past);
          within = facts.within;
          place = facts.place;
          has_row = let inside = old.has_row in omega (arith, inside, count_kept n row n bounds);
        })
    each other (inr has) =
        let old = swept.each other (waited items rest (item at n row) other p has) in
        record {
          later = old.later;
          within = old.within;
          place = old.place;
          has_row = let inside = old.has_row in omega (arith, inside, count_kept n row other.bound bounds);
        }
