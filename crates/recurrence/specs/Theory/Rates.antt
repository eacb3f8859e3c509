-- Lemmas that crates above cite: nothing here has to be believed.
-- The rate of a profile is constant from second to second except at places.
use Rattle.std.proofs.Common.{◌≡◌, ℕ, zero, suc, ◌+◌, ◌-◌, ◌%◌, ◌<◌, ◌≤◌, ◌==◌, nat_le, nat_lt, Bool, true, false, ◌||◌, List, [], ◌∷◌, filter, Option, Some, None, option_map, option_and_then, ⊎_elim, refl, sym, ap, ◌∙◌, mod-lt, mod-eq_of_lt, arith}
use Rattle.std.specs.List.{list_any}
use Rattle.std.proofs.Math.Nat.{suc-mod, mod_self}
use Rattle.std.proofs.lemmas.Bool.{or_parts, cases_lt, cases_order}
use Rattle.std.proofs.lemmas.Bool.Decides.{nat_tests}
use Rattle.profile.specs.declared.period.Period.{Period}
use Rattle.profile.specs.declared.schedule.Schedule.{Schedule}
use Rattle.profile.specs.declared.kind.Recurrency.TheVariants.{Daily, Weekly}
use Rattle.profile.specs.declared.kind.Kind.{Kind}
use Rattle.profile.specs.declared.kind.Kind.TheVariants.{Absolute, Recurring, Relative}
use Rattle.profile.specs.declared.charging_profile.Profile.{Profile}
use Rattle.profile.specs.Kind.{offset_after}
use Rattle.profile.specs.Greatest.{greatest}
use Rattle.profile.specs.ChargingProfile.{anchor, offset, is_before, is_from, is_valid_at, rate_within, rate}
use Rattle.profile.specs.Places.{is_at, is_turn, is_turn_at, is_place}
use Rattle.recurrence.specs.NextChange.{IsNextPlace, HasOneRateUntil}

is_before_next : (bound : Option ℕ) (n : ℕ) → is_at (suc n) bound ≡ false → is_before (suc n) bound ≡ is_before n bound
is_before_next None n quiet = refl
is_before_next (Some bound) n quiet = grind (arith, nat_tests)

is_from_next : (bound : Option ℕ) (n : ℕ) → is_at (suc n) bound ≡ false → is_from bound (suc n) ≡ is_from bound n
is_from_next None n quiet = refl
is_from_next (Some bound) n quiet = grind (arith, nat_tests)

-- if no period starts at the next second, the same periods have begun
begun_next : (periods : List Period) (n : ℕ) → list_any (λ (p : Period). suc n == p.start) periods ≡ false
    → filter (λ (p : Period). nat_le p.start (suc n)) periods ≡ filter (λ (p : Period). nat_le p.start n) periods
begun_next [] n quiet = refl
begun_next (p ∷ ps) n quiet =
    let parts = or_parts (suc n == p.start) (list_any (λ (q : Period). suc n == q.start) ps) quiet in
    let rest = begun_next ps n parts.1 in
    let apart : (suc n == p.start) ≡ false = parts.0 in
    let test : nat_le p.start (suc n) ≡ nat_le p.start n = grind (arith, nat_tests) in
    rw (rest, test) refl

-- the limit of a schedule is constant if it doesn't turn
rate_within_next : (profile : Profile) (n : ℕ) → is_turn profile.schedule (suc n) ≡ false → rate_within profile (suc n) ≡ rate_within profile n
rate_within_next profile n quiet =
    let schedule = profile.schedule in
    let starts = list_any (λ (p : Period). suc n == p.start) schedule.periods in
    let ends = is_at (suc n) schedule.duration in
    let parts = or_parts (suc n == 0) (starts || ends) quiet in
    let inner = or_parts starts ends parts.1 in
    let before = is_before_next schedule.duration n inner.1 in
    let begun = ap (λ (ps : List Period). option_map (λ (p : Period). p.limit) (greatest (λ (p : Period). p.start) ps)) (begun_next schedule.periods n inner.0) in
    rw (before, begun) refl

mod_next : (n k : ℕ) → 0 < k → (suc n % k == 0) ≡ false → suc n % k ≡ suc (n % k)
mod_next n k some quiet = ⊎_elim (λ inside. suc-mod n k ∙ mod-eq_of_lt inside) full (cases_lt (suc (n % k)) k)
  where
    full : k ≤ suc (n % k) → suc n % k ≡ suc (n % k)
    full high =
        let below : n % k < k = mod-lt n some in
        let e : suc (n % k) ≡ k = omega arith in
        let none : suc n % k ≡ 0 = suc-mod n k ∙ (ap (λ m. m % k) e ∙ mod_self k) in
        grind (arith, nat_tests)

-- if a schedule doesn't begin again, its offset increases by one
offset_next : (kind : Kind) (n : ℕ) → (offset_after kind (suc n) == 0) ≡ false → offset_after kind (suc n) ≡ suc (offset_after kind n)
offset_next Absolute n quiet = refl
offset_next (Recurring Daily) n quiet = mod_next n 86_400 (omega arith) quiet
offset_next (Recurring Weekly) n quiet = mod_next n 604_800 (omega arith) quiet
offset_next Relative n quiet = refl

begins : (schedule : Schedule) (n : ℕ) → is_turn schedule n ≡ false → (n == 0) ≡ false
begins schedule n quiet =
    (or_parts (n == 0) (list_any (λ (p : Period). n == p.start) schedule.periods || is_at n schedule.duration) quiet).0

offset_from : (profile : Profile) (base n : ℕ) → anchor profile base ≤ n → offset profile base n ≡ Some (offset_after profile.kind (n - anchor profile base))
offset_from profile base n from = let test : nat_lt n (anchor profile base) ≡ false = grind (arith, nat_tests) in rw test refl

offset_before : (profile : Profile) (base n : ℕ) → n < anchor profile base → offset profile base n ≡ None
offset_before profile base n before = let test : nat_lt n (anchor profile base) ≡ true = grind (arith, nat_tests) in rw test refl

zero_after : (kind : Kind) → offset_after kind 0 ≡ 0
zero_after Absolute = refl
zero_after (Recurring Daily) = refl
zero_after (Recurring Weekly) = refl
zero_after Relative = refl

-- the limit of a profile's schedule is constant if it doesn't turn
turn_next : (profile : Profile) (base n : ℕ) → is_turn_at profile.schedule (offset profile base (suc n)) ≡ false
    → option_and_then (rate_within profile) (offset profile base (suc n)) ≡ option_and_then (rate_within profile) (offset profile base n)
turn_next profile base n quiet = ⊎_elim at (⊎_elim before after) (cases_order (suc n) (anchor profile base))
  where
    the : ℕ
    the = anchor profile base

    at : suc n ≡ the → option_and_then (rate_within profile) (offset profile base (suc n)) ≡ option_and_then (rate_within profile) (offset profile base n)
    at here =
        let zero_in : suc n - the ≡ 0 = omega arith in
        let found : offset profile base (suc n) ≡ Some 0 = offset_from profile base (suc n) (omega arith) ∙ ap Some (ap (offset_after profile.kind) zero_in ∙ zero_after profile.kind) in
        let not : is_turn_at profile.schedule (Some 0) ≡ false = ap (is_turn_at profile.schedule) (sym found) ∙ quiet in
        cc

    before : suc n < the → option_and_then (rate_within profile) (offset profile base (suc n)) ≡ option_and_then (rate_within profile) (offset profile base n)
    before early =
        let a = offset_before profile base (suc n) early in
        let b = offset_before profile base n (omega arith) in
        ap (option_and_then (rate_within profile)) (a ∙ sym b)

    after : the < suc n → option_and_then (rate_within profile) (offset profile base (suc n)) ≡ option_and_then (rate_within profile) (offset profile base n)
    after late =
        let m = n - the in
        let e : suc n - the ≡ suc m = omega arith in
        let a : offset profile base (suc n) ≡ Some (offset_after profile.kind (suc m)) = offset_from profile base (suc n) (omega arith) ∙ ap (λ k. Some (offset_after profile.kind k)) e in
        let b : offset profile base n ≡ Some (offset_after profile.kind m) = offset_from profile base n (omega arith) in
        let still : is_turn profile.schedule (offset_after profile.kind (suc m)) ≡ false = ap (is_turn_at profile.schedule) (sym a) ∙ quiet in
        let more = offset_next profile.kind m (begins profile.schedule (offset_after profile.kind (suc m)) still) in
        let same : rate_within profile (offset_after profile.kind (suc m)) ≡ rate_within profile (offset_after profile.kind m) =
        ap (rate_within profile) more ∙ rate_within_next profile (offset_after profile.kind m) (ap (is_turn profile.schedule) (sym more) ∙ still) in
        ap (option_and_then (rate_within profile)) a ∙ (same ∙ ap (option_and_then (rate_within profile)) (sym b))

rate_next : (profile : Profile) (base n : ℕ) → is_place profile base (suc n) ≡ false → rate profile base (suc n) ≡ rate profile base n
rate_next profile base n quiet =
    let from = is_at (suc n) profile.valid_from in
    let to = is_at (suc n) profile.valid_to in
    let turn = is_turn_at profile.schedule (offset profile base (suc n)) in
    let parts = or_parts from (to || turn) quiet in
    let inner = or_parts to turn parts.1 in
    let a = is_from_next profile.valid_from n parts.0 in
    let b = is_before_next profile.valid_to n inner.0 in
    let valid : is_valid_at profile (suc n) ≡ is_valid_at profile n = rw (a, b) refl in
    rw (valid, turn_next profile base n inner.1) refl

-- the rate is constant over seconds of which none after the first is a place
rate_stays : (profile : Profile) (base n more : ℕ) → ((k : ℕ) → n < k → k ≤ n + more → is_place profile base k ≡ false)
    → rate profile base (n + more) ≡ rate profile base n
rate_stays profile base n zero quiet = let e : n + 0 ≡ n = omega arith in ap (rate profile base) e
rate_stays profile base n (suc more) quiet =
    let e : n + suc more ≡ suc (n + more) = omega arith in
    let last = quiet (n + suc more) (omega arith) (omega arith) in
    ap (rate profile base) e
    ∙ (rate_next profile base (n + more) (ap (is_place profile base) (sym e) ∙ last)
    ∙ rate_stays profile base n more (λ k later early. quiet k later (omega arith)))

pub rate_until : (profile : Profile) (base n end : ℕ) → n ≤ end → ((k : ℕ) → n < k → k ≤ end → is_place profile base k ≡ false)
    → rate profile base end ≡ rate profile base n
rate_until profile base n end from quiet =
    let e : n + (end - n) ≡ end = omega arith in
    ap (rate profile base) (sym e) ∙ rate_stays profile base n (end - n) (λ k later early. quiet k later (omega arith))

pub fails : (test : Bool) → ¬ (test ≡ true) → test ≡ false
fails true not = absurd (not refl)
fails false not = refl

-- the rate is constant up to the nearest place
pub one_rate : (profile : Profile) (base instant : ℕ) (next : Option ℕ) → IsNextPlace profile base instant next → HasOneRateUntil profile base instant next
one_rate profile base instant None is = λ k from end.
    rate_until profile base instant k from (λ j later early. fails (is_place profile base j) (is j later (omega arith)))
one_rate profile base instant (Some next) is = λ k from before.
    rate_until profile base instant k from (λ j later early. fails (is_place profile base j) (is.nearest j later (omega arith)))
