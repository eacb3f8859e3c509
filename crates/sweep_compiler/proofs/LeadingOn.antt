-- The limit is constant from a place to the next.
use Rattle.std.proofs.Common.{◌≡◌, ℕ, ◌+◌, ◌-◌, ◌<◌, ◌≤◌, ◌≢◌, true, List, [], ◌∷◌, Option, Some, None, ap, sym, subst, ◌∙◌, arith}
use Rattle.std.specs.List.{AllByRecursion, Contains}
use Rattle.meaning.specs.View.{PointState}
use Rattle.sweep_compiler.specs.Places.{is_second_asked, is_place_asked}
use Rattle.sweep_compiler.specs.ByCases.Curve.{LeadsOn}
use Rattle.sweep_compiler.specs.ByCases.Running.{Running, RunningBound}
use Rattle.sweep_compiler.specs.ByCases.Queue.{Due, IsSoonest, IsSoonestOf}
use Rattle.sweep_compiler.specs.ByCases.Swept.{EachRow, IsPassedUpTo, IsSwept}
use Rattle.sweep_compiler.proofs.TakenRows.{all_has}

-- ---- the sweep at the next place

rows_upto : (state : PointState) (connector asked last at next : ℕ) → at ≤ next → (runs : List Running) → AllByRecursion (IsPassedUpTo state connector asked last at) runs
    → AllByRecursion (IsPassedUpTo state connector asked last next) runs
rows_upto state connector asked last at next up [] h = tt
rows_upto state connector asked last at next up (run ∷ later) h =
    let since = h.0.since in
    (record { since = omega (arith, since, up); last_is = h.0.last_is; speaks = h.0.speaks }, rows_upto state connector asked last at next up later h.1)

each_upto : (state : PointState) (connector asked last at next : ℕ) → at ≤ next → (bounds : List RunningBound) → EachRow (IsPassedUpTo state connector asked last at) bounds
    → EachRow (IsPassedUpTo state connector asked last next) bounds
each_upto state connector asked last at next up [] h = tt
each_upto state connector asked last at next up (bound ∷ others) h = (rows_upto state connector asked last at next up bound.runs h.0, each_upto state connector asked last at next up others h.1)

pub swept_later : (state : PointState) (connector asked last at next : ℕ) (bounds : List RunningBound) (items : List Due) (sum : ℕ) → IsSwept state connector asked last at bounds items sum
    → IsSoonestOf items next → IsSwept state connector asked last next bounds items sum
swept_later state connector asked last at next bounds items sum swept soonest =
    let first = swept.each soonest.item soonest.waits in
    let from = first.later in
    let is = soonest.at in
    let start = swept.from in
    let up : at ≤ next = omega (arith, from, is) in
    record {
      gathered = swept.gathered;
      small = swept.small;
      few = swept.few;
      sum_is = swept.sum_is;
      from = omega (arith, start, up);
      passed = each_upto state connector asked last at next up bounds swept.passed;
      waits = swept.waits;
      each = λ item has. let old = swept.each item has in record {
        later = all_has (λ (other : Due). next ≤ other.instant) items item soonest.least has;
        within = old.within;
        place = old.place;
        has_row = old.has_row;
      };
    }

nothing : (item : Due) → Contains [] item → ⊥
nothing item (k, inside, is) = none inside
  where
    none : k < 0 → ⊥
    none inside = omega (arith, inside)

-- if no row waits at this instant any more, all that wait are ahead
pub all_ahead : (state : PointState) (connector asked last at : ℕ) (bounds : List RunningBound) (items : List Due) (sum : ℕ) (soonest : Option ℕ) → IsSwept state connector asked last at bounds items sum
    → IsSoonest items soonest → (soonest ≡ Some at → ⊥) → (item : Due) → Contains items item → at < item.instant
all_ahead state connector asked last at bounds items sum None swept is apart item has = absurd (nothing item (subst (λ (items : List Due). Contains items item) is has))
all_ahead state connector asked last at bounds items sum (Some next) swept is apart item has =
    let first = swept.each is.item is.waits in
    let from = first.later in
    let same = is.at in
    let low : next ≤ item.instant = all_has (λ (other : Due). next ≤ other.instant) items item is.least has in
    let other : next ≢ at = λ (e : next ≡ at). apart (ap (λ (n : ℕ). Some n) e) in
    omega (arith, from, same, low, other)

-- ---- up to the next place

-- a value is constant at each instant before which no row is due
abbrev pub StaysWhileNoneIsDue : {X : Type 0} → X → (ℕ → X) → ℕ → ℕ → List Due → Type 0
StaysWhileNoneIsDue now value at last items =
    (k : ℕ) → at ≤ k → k ≤ last → ((item : Due) → Contains items item → k < item.instant) → now ≡ value k

pub leads_some : {X : Type 0} (now : X) (value : ℕ → X) (state : PointState) (connector asked last at next : ℕ) (bounds : List RunningBound) (items : List Due) (sum : ℕ) → IsSwept state connector asked last at bounds items sum
    → ((item : Due) → Contains items item → at < item.instant) → IsSoonestOf items next → StaysWhileNoneIsDue now value at last items
    → LeadsOn (λ (second : ℕ). value (asked + second)) (is_second_asked state connector asked) (last + 1 - asked) (at - asked) (Some (next - asked))
leads_some now value state connector asked last at next bounds items sum swept ahead soonest while =
    let first = swept.each soonest.item soonest.waits in
    let past = ahead soonest.item soonest.waits in
    let is = soonest.at in
    let within = first.within in
    let from = swept.from in
    let there : asked + (next - asked) ≡ next = omega (arith, past, is, from) in
    let place : is_place_asked state connector asked next ≡ true = subst (λ (n : ℕ). is_place_asked state connector asked n ≡ true) is first.place in (
      omega (arith, past, is, from),
      omega (arith, past, is, from, within),
      ap (is_place_asked state connector asked) there ∙ place,
      λ later low high.
          let stays : (k : ℕ) → at ≤ k → k < next → now ≡ value k =
          λ k low high. while k low (omega (arith, high, is, within))
          (λ item has. let least : next ≤ item.instant = all_has (λ (other : Due). next ≤ other.instant) items item soonest.least has in omega (arith, high, least)) in
          sym (stays (asked + later) (omega (arith, low, from)) (omega (arith, high, there, past, is, from)))
          ∙ stays (asked + (at - asked)) (omega (arith, from)) (omega (arith, from, past, is)),
    )

pub leads_none : {X : Type 0} (now : X) (value : ℕ → X) (state : PointState) (connector asked last at : ℕ) (bounds : List RunningBound) (items : List Due) (sum : ℕ) → IsSwept state connector asked last at bounds items sum
    → items ≡ [] → at - asked < last + 1 - asked → StaysWhileNoneIsDue now value at last items
    → LeadsOn (λ (second : ℕ). value (asked + second)) (is_second_asked state connector asked) (last + 1 - asked) (at - asked) None
leads_none now value state connector asked last at bounds items sum swept none inside while = λ later low high.
    let from = swept.from in
    let stays : (k : ℕ) → at ≤ k → k ≤ last → now ≡ value k =
    λ k low high. while k low high
    (λ item has. absurd (nothing item (subst (λ (items : List Due). Contains items item) none has))) in
    sym (stays (asked + later) (omega (arith, low, from)) (omega (arith, high, from)))
    ∙ stays (asked + (at - asked)) (omega (arith, from)) (omega (arith, from, inside))
