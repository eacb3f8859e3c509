-- Inserting, overwriting or removing the rate of a level changes only that level, and the levels
-- stay in rising order.
use Rattle.std.proofs.Common.{◌≡◌, ℕ, ◌+◌, ◌-◌, ◌<◌, ◌≤◌, ◌==◌, nat_lt, zero, suc, Bool, true, false, cond, refl, ap, sym, ◌∙◌, List, [], ◌∷◌, length, take, drop, get_or, subst, Option, Some, None, slice_get, arith}
use Rattle.std.specs.List.{AllByRecursion, slice_set, insert, remove}
use Rattle.std.specs.List.Sorted.{IsPartitionedBy}
use Rattle.std.proofs.lemmas.Bool.{eq-eqb}
use Rattle.std.proofs.lemmas.Bool.Decides.{nat_tests}
use Rattle.std.proofs.lemmas.List.Sorted.{IsPartitionedBy-ltb, IsNonDecreasingBy-from_all_adjacent}
use Rattle.std.proofs.lemmas.Option.{get_or_from_slice_get}
use Rattle.stacking.specs.InForce.{rate_of, IsHighest, IsSet}
use Rattle.stacking.specs.ByCases.InForce.{AreRising, IsPlaceOf, has_level_at}

abbrev AreBelow : ℕ → List (ℕ × ℕ) → Type 0
AreBelow level rates = AllByRecursion (λ (entry : ℕ × ℕ). entry.0 < level) rates

abbrev AreAbove : ℕ → List (ℕ × ℕ) → Type 0
AreAbove level rates = AllByRecursion (λ (entry : ℕ × ℕ). level < entry.0) rates

abbrev AreNotBelow : ℕ → List (ℕ × ℕ) → Type 0
AreNotBelow level rates = AllByRecursion (λ (entry : ℕ × ℕ). level ≤ entry.0) rates

-- ---- the place of a level

above_more : (low high : ℕ) (rates : List (ℕ × ℕ)) → low ≤ high → AreAbove high rates → AreAbove low rates
above_more low high [] less all = tt
above_more low high (entry ∷ rates) less all = (omega (arith, less, all.0), above_more low high rates less all.1)

adjacent : (rates : List (ℕ × ℕ)) → AreRising rates → (k : ℕ) (d : ℕ × ℕ) → k + 1 < length rates → (get_or rates k d).0 ≤ (get_or rates (k + 1) d).0
adjacent [] rising k d inside = absurd (omega arith)
adjacent (a ∷ []) rising k d inside = absurd (omega arith)
adjacent (a ∷ (b ∷ rates)) rising zero d inside = let less : a.0 < b.0 = rising.0.0 in omega (arith, less)
adjacent (a ∷ (b ∷ rates)) rising (suc k) d inside =
    let next : suc k + 1 ≡ suc (k + 1) = omega arith in
    rw next (adjacent (b ∷ rates) rising.1 k d (omega arith))

pub partitioned : (rates : List (ℕ × ℕ)) (level : ℕ) → AreRising rates → IsPartitionedBy (λ (entry : ℕ × ℕ). nat_lt entry.0 level) rates
partitioned rates level rising =
    IsPartitionedBy-ltb (λ (entry : ℕ × ℕ). entry.0) rates level (IsNonDecreasingBy-from_all_adjacent (λ (entry : ℕ × ℕ). entry.0) rates (adjacent rates rising))

below_place : (place level : ℕ) (rates : List (ℕ × ℕ)) → place ≤ length rates
    → ((k : ℕ) (d : ℕ × ℕ) → k < place → nat_lt (get_or rates k d).0 level ≡ true) → AreBelow level (take place rates)
below_place zero level rates within each = tt
below_place (suc place) level [] within each = tt
below_place (suc place) level (entry ∷ rates) within each =
    let first = each zero entry (omega arith) in
    let here : entry.0 < level = grind (arith, nat_tests, first) in
    (here, below_place place level rates (omega (arith, within)) (λ k d less. each (suc k) d (omega (arith, less))))

from_start : (level : ℕ) (rates : List (ℕ × ℕ)) → ((k : ℕ) (d : ℕ × ℕ) → k < length rates → nat_lt (get_or rates k d).0 level ≡ false) → AreNotBelow level rates
from_start level [] each = tt
from_start level (entry ∷ rates) each =
    let first = each zero entry (omega arith) in
    let here : level ≤ entry.0 = grind (arith, nat_tests, first) in
    (here, from_start level rates (λ k d less. each (suc k) d (omega (arith, less))))

from_place : (place level : ℕ) (rates : List (ℕ × ℕ)) → ((k : ℕ) (d : ℕ × ℕ) → place ≤ k → k < length rates → nat_lt (get_or rates k d).0 level ≡ false)
    → AreNotBelow level (drop place rates)
from_place zero level rates each = from_start level rates (λ k d less. each k d (omega arith) less)
from_place (suc place) level [] each = tt
from_place (suc place) level (entry ∷ rates) each = from_place place level rates (λ k d from less. each (suc k) d (omega (arith, from)) (omega (arith, less)))

pub is_place : (rates : List (ℕ × ℕ)) (level place : ℕ) → place ≤ length rates
    → ((k : ℕ) (d : ℕ × ℕ) → k < place → nat_lt (get_or rates k d).0 level ≡ true)
    → ((k : ℕ) (d : ℕ × ℕ) → place ≤ k → k < length rates → nat_lt (get_or rates k d).0 level ≡ false) → IsPlaceOf rates level place
is_place rates level place within before from = record {
  within = within;
  below = below_place place level rates within before;
  not_below = from_place place level rates from;
}

-- the index of an entry with the level is its place

below_one : (place low level : ℕ) (rates : List (ℕ × ℕ)) → AreAbove low rates → has_level_at rates level place ≡ true → low < level
below_one zero low level [] above there = absurd (grind (arith, there))
below_one zero low level (entry ∷ rates) above there =
    let same : entry.0 ≡ level = grind (arith, nat_tests, there) in
    let less : low < entry.0 = above.0 in
    omega (arith, same, less)
below_one (suc place) low level [] above there = absurd (grind (arith, there))
below_one (suc place) low level (entry ∷ rates) above there = below_one place low level rates above.1 there

not_below_it : (level : ℕ) (rates : List (ℕ × ℕ)) → AreAbove level rates → AreNotBelow level rates
not_below_it level [] above = tt
not_below_it level (entry ∷ rates) above = let less : level < entry.0 = above.0 in (omega (arith, less), not_below_it level rates above.1)

pub place_of_one : (place level : ℕ) (rates : List (ℕ × ℕ)) → AreRising rates → has_level_at rates level place ≡ true → IsPlaceOf rates level place
place_of_one zero level [] rising there = absurd (grind (arith, there))
place_of_one zero level (entry ∷ rates) rising there =
    let same : entry.0 ≡ level = grind (arith, nat_tests, there) in
    record {
      within = omega arith;
      below = tt;
      not_below = (omega (arith, same), not_below_it level rates (above_more level entry.0 rates (omega (arith, same)) rising.0));
    }
place_of_one (suc place) level [] rising there = absurd (grind (arith, there))
place_of_one (suc place) level (entry ∷ rates) rising there =
    let rest = place_of_one place level rates rising.1 there in
    let inside = rest.within in
    record {
      within = omega (arith, inside);
      below = (below_one place entry.0 level rates rising.0 there, rest.below);
      not_below = rest.not_below;
    }

-- if the entry at the place has another level, those from there on are above the level
above_place : (place level : ℕ) (rates : List (ℕ × ℕ)) → AreRising rates → AreNotBelow level (drop place rates) → has_level_at rates level place ≡ false → AreAbove level (drop place rates)
above_place zero level [] rising from apart = tt
above_place zero level (entry ∷ rates) rising from apart =
    let from_here : level ≤ entry.0 = from.0 in
    let other : (entry.0 == level) ≡ false = apart in
    let here : level < entry.0 = grind (arith, nat_tests, from_here, other) in
    (here, above_more level entry.0 rates from_here rising.0)
above_place (suc place) level [] rising from apart = tt
above_place (suc place) level (entry ∷ rates) rising from apart = above_place place level rates rising.1 from apart

-- ---- look-ups

none_above : (level : ℕ) (rates : List (ℕ × ℕ)) → AreAbove level rates → rate_of rates level ≡ None
none_above level [] above = refl
none_above level (entry ∷ rates) above =
    let here : level < entry.0 = above.0 in
    let apart : (level == entry.0) ≡ false = grind (arith, nat_tests, here) in
    rw apart (none_above level rates above.1)

none_there : (place level : ℕ) (rates : List (ℕ × ℕ)) → AreBelow level (take place rates) → AreAbove level (drop place rates) → rate_of rates level ≡ None
none_there zero level rates below above = none_above level rates above
none_there (suc place) level [] below above = refl
none_there (suc place) level (entry ∷ rates) below above =
    let here : entry.0 < level = below.0 in
    let apart : (level == entry.0) ≡ false = grind (arith, nat_tests, here) in
    rw apart (none_there place level rates below.1 above)

-- setting a level changes nothing for an entry of another level before it
set_behind : (entry : ℕ × ℕ) (level other : ℕ) (rate before after : Option ℕ) → entry.0 < level
    → after ≡ cond (other == level) rate before
    → cond (other == entry.0) (Some entry.1) after ≡ cond (other == level) rate (cond (other == entry.0) (Some entry.1) before)
set_behind entry level other rate before after less is = go (other == entry.0) (other == level) refl refl
  where
    go : (here there : Bool) → (other == entry.0) ≡ here → (other == level) ≡ there
        → cond here (Some entry.1) after ≡ cond there rate (cond here (Some entry.1) before)
    go true true h t = absurd (clash h t)
      where
        clash : (other == entry.0) ≡ true → (other == level) ≡ true → ⊥
        clash h t = grind (arith, nat_tests, less)
    go true false h t = refl
    go false true h t = is ∙ ap (λ (b : Bool). cond b rate before) t
    go false false h t = is ∙ ap (λ (b : Bool). cond b rate before) t

pub put_between : (place level rate : ℕ) (rates : List (ℕ × ℕ)) → AreBelow level (take place rates) → IsSet rates level (Some rate) (insert rates place (level, rate))
put_between zero level rate rates below other = refl
put_between (suc place) level rate [] below other = refl
put_between (suc place) level rate (entry ∷ rates) below other =
    set_behind entry level other (Some rate) (rate_of rates other) _ below.0 (put_between place level rate rates below.1 other)

pub put_over : (place level rate : ℕ) (rates : List (ℕ × ℕ)) → AreBelow level (take place rates) → has_level_at rates level place ≡ true
    → IsSet rates level (Some rate) (slice_set rates place (level, rate))
put_over zero level rate [] below there other = absurd (false≢true there)
  where
    false≢true : false ≡ true → ⊥
    false≢true e = grind (arith, e)
put_over zero level rate (entry ∷ rates) below there other = go (other == level) (other == entry.0) refl refl
  where
    go : (a b : Bool) → (other == level) ≡ a → (other == entry.0) ≡ b → cond a (Some rate) (rate_of rates other) ≡ cond a (Some rate) (cond b (Some entry.1) (rate_of rates other))
    go true b p q = refl
    go false false p q = refl
    go false true p q = absurd (clash there p q)
      where
        clash : (entry.0 == level) ≡ true → (other == level) ≡ false → (other == entry.0) ≡ true → ⊥
        clash t p q = grind (arith, nat_tests)
put_over (suc place) level rate [] below there other = absurd (grind (arith, there))
put_over (suc place) level rate (entry ∷ rates) below there other =
    set_behind entry level other (Some rate) (rate_of rates other) _ below.0 (put_over place level rate rates below.1 there other)

pub taken_out : (place level : ℕ) (rates : List (ℕ × ℕ)) → AreRising rates → AreBelow level (take place rates) → has_level_at rates level place ≡ true
    → IsSet rates level None (remove rates place)
taken_out zero level [] rising below there other = absurd (grind (arith, there))
taken_out zero level (entry ∷ rates) rising below there other = go (other == level) (other == entry.0) refl refl
  where
    same : entry.0 ≡ level
    same = grind (arith, nat_tests, there)

    go : (a b : Bool) → (other == level) ≡ a → (other == entry.0) ≡ b → rate_of rates other ≡ cond a None (cond b (Some entry.1) (rate_of rates other))
    go true b p q =
        let is : other ≡ entry.0 = grind (arith, nat_tests, p, same) in
        rw is (none_above entry.0 rates rising.0)
    go false false p q = refl
    go false true p q = absurd (clash same p q)
      where
        clash : entry.0 ≡ level → (other == level) ≡ false → (other == entry.0) ≡ true → ⊥
        clash s p q = grind (arith, nat_tests)
taken_out (suc place) level [] rising below there other = absurd (grind (arith, there))
taken_out (suc place) level (entry ∷ rates) rising below there other =
    set_behind entry level other None (rate_of rates other) _ below.0 (taken_out place level rates rising.1 below.1 there other)

pub not_there : (place level : ℕ) (rates : List (ℕ × ℕ)) → AreRising rates → IsPlaceOf rates level place → has_level_at rates level place ≡ false → IsSet rates level None rates
not_there place level rates rising is apart other = go (other == level) refl
  where
    none : rate_of rates level ≡ None
    none = none_there place level rates is.below (above_place place level rates rising is.not_below apart)

    go : (b : Bool) → (other == level) ≡ b → rate_of rates other ≡ cond b None (rate_of rates other)
    go true p = let same : other ≡ level = grind (arith, nat_tests, p) in rw same none
    go false p = refl

-- ---- levels stay in rising order

above_inserted : (low place level rate : ℕ) (rates : List (ℕ × ℕ)) → low < level → AreAbove low rates → AreAbove low (insert rates place (level, rate))
above_inserted low zero level rate rates less all = (less, all)
above_inserted low (suc place) level rate [] less all = (less, tt)
above_inserted low (suc place) level rate (entry ∷ rates) less all = (all.0, above_inserted low place level rate rates less all.1)

inserted_rise : (place level rate : ℕ) (rates : List (ℕ × ℕ)) → AreRising rates → AreBelow level (take place rates) → AreAbove level (drop place rates) → AreRising (insert rates place (level, rate))
inserted_rise zero level rate rates rising below above = (above, rising)
inserted_rise (suc place) level rate [] rising below above = (tt, tt)
inserted_rise (suc place) level rate (entry ∷ rates) rising below above =
    (above_inserted entry.0 place level rate rates below.0 rising.0, inserted_rise place level rate rates rising.1 below.1 above)

pub put_between_rises : (place level rate : ℕ) (rates : List (ℕ × ℕ)) → AreRising rates → IsPlaceOf rates level place → has_level_at rates level place ≡ false → AreRising (insert rates place (level, rate))
put_between_rises place level rate rates rising is apart =
    inserted_rise place level rate rates rising is.below (above_place place level rates rising is.not_below apart)

above_over : (low place level rate : ℕ) (rates : List (ℕ × ℕ)) → has_level_at rates level place ≡ true → AreAbove low rates → AreAbove low (slice_set rates place (level, rate))
above_over low zero level rate [] there all = tt
above_over low zero level rate (entry ∷ rates) there all =
    let here : low < entry.0 = all.0 in
    let same : entry.0 ≡ level = grind (arith, nat_tests, there) in
    (omega (arith, here, same), all.1)
above_over low (suc place) level rate [] there all = tt
above_over low (suc place) level rate (entry ∷ rates) there all = (all.0, above_over low place level rate rates there all.1)

pub put_over_rises : (place level rate : ℕ) (rates : List (ℕ × ℕ)) → AreRising rates → has_level_at rates level place ≡ true → AreRising (slice_set rates place (level, rate))
put_over_rises zero level rate [] rising there = tt
put_over_rises zero level rate (entry ∷ rates) rising there =
    let same : entry.0 ≡ level = grind (arith, nat_tests, there) in
    (above_more level entry.0 rates (omega (arith, same)) rising.0, rising.1)
put_over_rises (suc place) level rate [] rising there = tt
put_over_rises (suc place) level rate (entry ∷ rates) rising there =
    (above_over entry.0 place level rate rates there rising.0, put_over_rises place level rate rates rising.1 there)

above_removed : (low place : ℕ) (rates : List (ℕ × ℕ)) → AreAbove low rates → AreAbove low (remove rates place)
above_removed low zero [] all = tt
above_removed low zero (entry ∷ rates) all = all.1
above_removed low (suc place) [] all = tt
above_removed low (suc place) (entry ∷ rates) all = (all.0, above_removed low place rates all.1)

pub taken_out_rises : (place : ℕ) (rates : List (ℕ × ℕ)) → AreRising rates → AreRising (remove rates place)
taken_out_rises zero [] rising = tt
taken_out_rises zero (entry ∷ rates) rising = rising.1
taken_out_rises (suc place) [] rising = tt
taken_out_rises (suc place) (entry ∷ rates) rising = (above_removed entry.0 place rates rising.0, taken_out_rises place rates rising.1)

-- ---- the highest

above_as : (rates : List (ℕ × ℕ)) (low : ℕ) → AreAbove low rates → (k : ℕ) (d : ℕ × ℕ) → k < length rates → low < (get_or rates k d).0
above_as [] low all k d inside = absurd (omega (arith, inside))
above_as (entry ∷ rates) low all zero d inside = all.0
above_as (entry ∷ rates) low all (suc k) d inside = above_as rates low all.1 k d (omega (arith, inside))

-- the last entry has its rate
last_has : (entry : ℕ × ℕ) (rates : List (ℕ × ℕ)) (d : ℕ × ℕ) → AreRising (entry ∷ rates) → rate_of (entry ∷ rates) (get_or (entry ∷ rates) (length rates) d).0 ≡ Some (get_or (entry ∷ rates) (length rates) d).1
last_has entry [] d rising = ap (λ (b : Bool). cond b (Some entry.1) None) (eq-eqb entry.0 entry.0 refl)
last_has entry (next ∷ rates) d rising =
    let above : entry.0 < (get_or (next ∷ rates) (length rates) d).0 = above_as (next ∷ rates) entry.0 rising.0 (length rates) d (omega arith) in
    let apart : ((get_or (next ∷ rates) (length rates) d).0 == entry.0) ≡ false = grind (arith, nat_tests, above) in
    rw apart (last_has next rates d rising.1)

-- no level above the last entry has a rate
none_above_last : (entry : ℕ × ℕ) (rates : List (ℕ × ℕ)) (d : ℕ × ℕ) → AreRising (entry ∷ rates) → (higher : ℕ) → (get_or (entry ∷ rates) (length rates) d).0 < higher → rate_of (entry ∷ rates) higher ≡ None
none_above_last entry [] d rising higher less =
    let apart : (higher == entry.0) ≡ false = grind (arith, nat_tests, less) in
    rw apart refl
none_above_last entry (next ∷ rates) d rising higher less =
    let above : entry.0 < (get_or (next ∷ rates) (length rates) d).0 = above_as (next ∷ rates) entry.0 rising.0 (length rates) d (omega arith) in
    let apart : (higher == entry.0) ≡ false = grind (arith, nat_tests, above, less) in
    rw apart (none_above_last next rates d rising.1 higher less)

pub last_is_top : (rates : List (ℕ × ℕ)) (last : ℕ × ℕ) → slice_get rates (length rates - 1) ≡ Some last → AreRising rates → IsHighest rates last.1
last_is_top [] last read rising = absurd (grind (arith, read))
last_is_top (entry ∷ rates) last read rising =
    let at : length (entry ∷ rates) - 1 ≡ length rates = omega arith in
    let is_last : last ≡ get_or (entry ∷ rates) (length rates) last = sym (get_or_from_slice_get (entry ∷ rates) (length rates) last last (sym (ap (slice_get (entry ∷ rates)) at) ∙ read)) in
    record {
      level = last.0;
      has = subst (λ (l : ℕ × ℕ). rate_of (entry ∷ rates) l.0 ≡ Some l.1) (sym is_last) (last_has entry rates last rising);
      none_above = λ higher less. none_above_last entry rates last rising higher (subst (λ (l : ℕ × ℕ). l.0 < higher) is_last less);
    }
