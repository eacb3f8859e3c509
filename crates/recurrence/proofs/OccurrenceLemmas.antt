-- The progress of a profile in an occurrence of its schedule.
use Rattle.std.proofs.Common.{◌≡◌, ℕ, zero, suc, ◌+◌, ◌-◌, ◌<◌, ◌≤◌, ◌==◌, nat_le, nat_lt, Bool, true, false, ◌&&◌, ◌||◌, List, [], ◌∷◌, filter, length, get_or, Option, Some, None, cond, ⊎_elim, refl, sym, ap, ◌∙◌, arith}
use Rattle.std.proofs.Math.Nat.{mod-le}
use Rattle.std.proofs.lemmas.Bool.{and_parts, cases_lt}
use Rattle.std.proofs.lemmas.Bool.Decides.{nat_tests}
use Rattle.std.proofs.lemmas.List.{get_or_default}
use Rattle.ocpp_scalars.specs.Limits.{last_second}
use Rattle.profile.specs.declared.period.Period.{Period}
use Rattle.profile.specs.declared.charging_profile.Profile.{Profile}
use Rattle.profile.specs.Greatest.{greatest}
use Rattle.profile.specs.Kind.{offset_after, recurrence_length}
use Rattle.profile.specs.declared.kind.Kind.{Kind}
use Rattle.profile.specs.declared.kind.Kind.TheVariants.{Absolute, Recurring, Relative}
use Rattle.profile.specs.Periods.{are_in_order, limit_in}
use Rattle.profile.specs.ChargingProfile.{anchor, offset, is_before, is_from, is_valid_at, rate}
use Rattle.profile.specs.Places.{is_at, is_place}
use Rattle.recurrence.specs.declared.occurrence.Occurrence.{Occurrence}
use Rattle.recurrence.specs.Places.{places_after}
use Rattle.recurrence.specs.NextChange.{IsNextPlace}
use Rattle.recurrence.specs.ByCases.Next.{IsFirstAfter, is_start}
use Rattle.recurrence.specs.ByCases.Occurrence.{IsBegunUpTo, IsFence, IsNextPeriod, IsOccurrence, if_live, is_live_at}
use Rattle.recurrence.proofs.StartLemmas.{next_start_at}
use Rattle.recurrence.proofs.PlaceLemmas.{places_first}

-- ---- periods in order

tail_in_order : (p : Period) (ps : List Period) → are_in_order (p ∷ ps) ≡ true → are_in_order ps ≡ true
tail_in_order p [] ordered = refl
tail_in_order p (q ∷ qs) ordered = (and_parts (nat_lt p.start q.start) (are_in_order (q ∷ qs)) ordered).1

first_before : (p : Period) (ps : List Period) (k : ℕ) (d : Period) → are_in_order (p ∷ ps) ≡ true → k < length ps → p.start < (get_or ps k d).start
first_before p [] k d ordered inside = absurd (omega arith)
first_before p (q ∷ qs) zero d ordered inside =
    let parts = and_parts (nat_lt p.start q.start) (are_in_order (q ∷ qs)) ordered in grind (arith, nat_tests)
first_before p (q ∷ qs) (suc k) d ordered inside =
    let parts = and_parts (nat_lt p.start q.start) (are_in_order (q ∷ qs)) ordered in
    let here : p.start < q.start = grind (arith, nat_tests) in
    let more = first_before q qs k d parts.1 (omega arith) in
    omega (arith, here, more)

rises : (ps : List Period) (j k : ℕ) (d : Period) → are_in_order ps ≡ true → j < k → k < length ps → (get_or ps j d).start < (get_or ps k d).start
rises [] j k d ordered less inside = absurd (omega arith)
rises (p ∷ ps) j zero d ordered less inside = absurd (omega arith)
rises (p ∷ ps) zero (suc k) d ordered less inside = first_before p ps k d ordered (omega arith)
rises (p ∷ ps) (suc j) (suc k) d ordered less inside = rises ps j k d (tail_in_order p ps ordered) (omega arith) (omega arith)

none_begun : (s : ℕ) (ps : List Period) → ((k : ℕ) (d : Period) → k < length ps → s < (get_or ps k d).start) → filter (λ (p : Period). nat_le p.start s) ps ≡ []
none_begun s [] later = refl
none_begun s (p ∷ ps) later =
    let here : s < p.start = later 0 p (omega arith) in
    let test : nat_le p.start s ≡ false = grind (arith, nat_tests) in
    rw test (none_begun s ps (λ k d inside. later (suc k) d (omega arith)))

greatest_at : (ps : List Period) (i : ℕ) (d : Period) → are_in_order ps ≡ true → i < length ps
    → greatest (λ (p : Period). p.start) (filter (λ (p : Period). nat_le p.start (get_or ps i d).start) ps) ≡ Some (get_or ps i d)
greatest_at [] i d ordered inside = absurd (omega arith)
greatest_at (p ∷ ps) zero d ordered inside =
    let test : nat_le p.start p.start ≡ true = grind (arith, nat_tests) in
    rw (test, none_begun p.start ps (λ k e inner. first_before p ps k e ordered inner)) refl
greatest_at (p ∷ ps) (suc i) d ordered inside =
    let inner : i < length ps = omega arith in
    let below : p.start < (get_or ps i d).start = first_before p ps i d ordered inner in
    let test : nat_le p.start (get_or ps i d).start ≡ true = grind (arith, nat_tests) in
    let less : nat_lt p.start (get_or ps i d).start ≡ true = grind (arith, nat_tests) in
    rw (test, greatest_at ps i d (tail_in_order p ps ordered) inner, less) refl

-- at a period's start, the limit is that of the period
limit_at_start : (ps : List Period) (i : ℕ) (d : Period) → are_in_order ps ≡ true → i < length ps → limit_in ps (get_or ps i d).start ≡ Some (get_or ps i d).limit
limit_at_start ps i d ordered inside = rw (greatest_at ps i d ordered inside) refl

-- and one more period has begun
begun_more : (ps : List Period) (i : ℕ) (d : Period) → are_in_order ps ≡ true → i < length ps → IsBegunUpTo ps (get_or ps i d).start (i + 1)
begun_more ps i d ordered inside = (before, behind)
  where
    before : (k : ℕ) (e : Period) → 0 ≤ k → k < i + 1 → nat_le (get_or ps k e).start (get_or ps i d).start ≡ true
    before k e from below = ⊎_elim
        (λ (less : k < i). let up = rises ps k i d ordered less inside in
        let same = get_or_default ps k e d (omega arith) in rw same (grind (arith, nat_tests)))
        (λ (least : i ≤ k). let here : k ≡ i = omega arith in
        let same = get_or_default ps i e d inside in rw (here, same) (grind (arith, nat_tests)))
        (cases_lt k i)

    behind : (k : ℕ) (e : Period) → i + 1 ≤ k → k < length ps → nat_le (get_or ps k e).start (get_or ps i d).start ≡ false
    behind k e from inner =
        let up = rises ps i k d ordered (omega arith) inner in
        let same = get_or_default ps k e d inner in rw same (grind (arith, nat_tests))

-- an offset is at most the seconds since the anchor
pub offset_low : (kind : Kind) (n : ℕ) → offset_after kind n ≤ n
offset_low Absolute n = omega arith
offset_low (Recurring recurrency) n = mod-le n (recurrence_length recurrency)
offset_low Relative n = omega arith

-- ---- before the fence

from_stays : (bound : Option ℕ) (m n : ℕ) → m < n → ((j : ℕ) → m < j → j ≤ n → is_at j bound ≡ false) → is_from bound n ≡ is_from bound m
from_stays None m n more quiet = refl
from_stays (Some b) m n more quiet = ⊎_elim
    (λ (later : m < b). ⊎_elim
    (λ (past : n < b). grind (arith, nat_tests))
    (λ (upto : b ≤ n). let no : (b == b) ≡ false = quiet b later upto in grind (arith, nat_tests))
    (cases_lt n b))
    (λ (begun : b ≤ m). grind (arith, nat_tests))
    (cases_lt m b)

before_stays : (bound : Option ℕ) (m n : ℕ) → m < n → ((j : ℕ) → m < j → j ≤ n → is_at j bound ≡ false) → is_before n bound ≡ is_before m bound
before_stays None m n more quiet = refl
before_stays (Some b) m n more quiet = ⊎_elim
    (λ (later : m < b). ⊎_elim
    (λ (past : n < b). grind (arith, nat_tests))
    (λ (upto : b ≤ n). let no : (b == b) ≡ false = quiet b later upto in grind (arith, nat_tests))
    (cases_lt n b))
    (λ (begun : b ≤ m). grind (arith, nat_tests))
    (cases_lt m b)

both : {X : Type 0} (v b : Bool) (x : Option X) → cond v (cond b x None) None ≡ cond (b && v) x None
both true true x = refl
both true false x = refl
both false true x = refl
both false false x = refl

or-false : (b : Bool) → (b || false) ≡ b
or-false true = refl
or-false false = refl

pub occurrence_from : (profile : Profile) (base second begin begun fence : ℕ) → anchor profile base ≤ second → begin ≤ second
    → IsFence profile (anchor profile base) begin second fence → IsBegunUpTo profile.schedule.periods (second - begin) begun
    → IsOccurrence profile base second (record { begin = begin; begun = begun; fence = fence; is_live = is_live_at profile (second - begin) second })
occurrence_from profile base second begin begun fence from low is point = record {
  begins = low;
  begun = point;
  places = places;
  rates = rates;
}
  where
    at : (k : ℕ) → second < k → k < fence → offset profile base k ≡ Some (k - begin)
    at k later early =
        let test : nat_lt k (anchor profile base) ≡ false = grind (arith, nat_tests) in
        rw test (ap Some (is.round k later early))

    places : (k : ℕ) → second < k → k < fence → is_place profile base k ≡ is_start profile.schedule.periods (k - begin)
    places k later early =
        let begins : ((k - begin) == 0) ≡ false = grind (arith, nat_tests) in
        rw (is.from k later early, is.to k later early, at k later early, begins, is.end k later early) (or-false _)

    ends : (k : ℕ) → second < k → k < fence → (j : ℕ) → second - begin < j → j ≤ k - begin → is_at j profile.schedule.duration ≡ false
    ends k later early j past upto =
        let e : (j + begin) - begin ≡ j = omega arith in
        ap (λ n. is_at n profile.schedule.duration) (sym e) ∙ is.end (j + begin) (omega arith) (omega arith)

    rates : (k : ℕ) → second < k → k < fence → rate profile base k ≡ if_live (is_live_at profile (second - begin) second) (limit_in profile.schedule.periods (k - begin))
    rates k later early =
        let valid_from = from_stays profile.valid_from second k later (λ j past upto. is.from j past (omega arith)) in
        let valid_to = before_stays profile.valid_to second k later (λ j past upto. is.to j past (omega arith)) in
        let lasts = before_stays profile.schedule.duration (second - begin) (k - begin) (omega arith) (ends k later early) in
        rw (at k later early, valid_from, valid_to, lasts) (both (is_valid_at profile second) _ _)

-- ---- the start of the next period

pub period_from : (profile : Profile) (base after last : ℕ) (o : Occurrence) (d : Period) → IsOccurrence profile base after o → are_in_order profile.schedule.periods ≡ true
    → o.begun < length profile.schedule.periods → o.begin + (get_or profile.schedule.periods o.begun d).start < o.fence
    → o.begin + (get_or profile.schedule.periods o.begun d).start ≤ last → last ≤ last_second
    → IsNextPeriod profile base after last
    (record { instant = o.begin + (get_or profile.schedule.periods o.begun d).start; rate = if_live o.is_live (Some (get_or profile.schedule.periods o.begun d).limit) })
    (record { begin = o.begin; begun = o.begun + 1; fence = o.fence; is_live = o.is_live })
period_from profile base after last o d is ordered inside early up top = record {
  first = places_first profile base after last next nearest up ∙ ap (λ (r : Option ℕ). record { instant = next; rate = r } ∷ places_after profile base next last) has_rate;
  occurrence = record {
    begins = omega arith;
    begun = ap_begun;
    places = λ k behind below. let past = later in is.places k (omega (arith, past, behind)) below;
    rates = λ k behind below. let past = later in is.rates k (omega (arith, past, behind)) below;
  };
}
  where
    ps : List Period
    ps = profile.schedule.periods

    start : ℕ
    start = (get_or ps o.begun d).start

    next : ℕ
    next = o.begin + start

    next_start : IsFirstAfter (is_start ps) (after - o.begin) start
    next_start = next_start_at ps o.begun (after - o.begin) d ordered inside is.begun

    later : after < next
    later = let past = next_start.later in let low = is.begins in omega (arith, past, low)

    back : next - o.begin ≡ start
    back = omega arith

    nearest : IsNextPlace profile base after (Some next)
    nearest = record {
      later = later;
      in_calendar = omega (arith, up, top);
      place = is.places next later early ∙ ap (is_start ps) back ∙ next_start.passes;
      nearest = λ k from below. λ place.
          let low = is.begins in
          let none = next_start.fails_between (k - o.begin) (omega (arith, from, low)) (omega (arith, below, from, low)) in
          let same = is.places k from (omega (arith, below, early)) in
          absurd (cc (place, same, none));
    }

    has_rate : rate profile base next ≡ if_live o.is_live (Some (get_or ps o.begun d).limit)
    has_rate = is.rates next later early ∙ ap (if_live o.is_live) (ap (limit_in ps) back ∙ limit_at_start ps o.begun d ordered inside)

    ap_begun : IsBegunUpTo ps (next - o.begin) (o.begun + 1)
    ap_begun = rw back (begun_more ps o.begun d ordered inside)
