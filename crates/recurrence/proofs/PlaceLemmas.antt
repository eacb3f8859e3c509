-- The places after an instant: the nearest comes first.
use Rattle.std.proofs.Common.{◌≡◌, ℕ, ◌+◌, ◌-◌, ◌<◌, ◌≤◌, zero, suc, Bool, true, false, [], ◌∷◌, map, filter, Some, None, refl, ap, ◌∙◌, arith}
use Rattle.std.specs.List.{range_with_len}
use Rattle.ocpp_scalars.specs.Limits.{last_second}
use Rattle.profile.specs.declared.charging_profile.Profile.{Profile}
use Rattle.profile.specs.Places.{is_place}
use Rattle.recurrence.specs.NextChange.{IsNextPlace}
use Rattle.recurrence.specs.Places.{place_at, places_after}
use Rattle.recurrence.specs.Theory.Rates.{fails}

none_of : (test : ℕ → Bool) (a n : ℕ) → ((k : ℕ) → a ≤ k → k < a + n → test k ≡ false) → filter test (range_with_len a n) ≡ []
none_of test a zero none = refl
none_of test a (suc n) none =
    rw (none a (omega arith) (omega arith)) (none_of test (a + 1) n (λ k from below. none k (omega arith) (omega arith)))

first_of : (test : ℕ → Bool) (a before after first : ℕ) → a + before ≡ first → test first ≡ true → ((k : ℕ) → a ≤ k → k < first → test k ≡ false)
    → filter test (range_with_len a (before + suc after)) ≡ first ∷ filter test (range_with_len (first + 1) after)
first_of test a zero after first e passes none = let is : a ≡ first = omega arith in let sum : 0 + suc after ≡ suc after = omega arith in rw (is, sum, passes) refl
first_of test a (suc before) after first e passes none =
    let more : suc before + suc after ≡ suc (before + suc after) = omega arith in
    rw (more, none a (omega arith) (omega arith)) (first_of test (a + 1) before after first (omega arith) passes (λ k from below. none k (omega arith) below))

-- the nearest place is the first, followed by the places after it
pub places_first : (profile : Profile) (base instant last next : ℕ) → IsNextPlace profile base instant (Some next) → next ≤ last
    → places_after profile base instant last ≡ place_at profile base next ∷ places_after profile base next last
places_first profile base instant last next is up =
    let later = is.later in
    let all : last - instant ≡ (next - (instant + 1)) + suc (last - next) = omega arith in
    let one = first_of (is_place profile base) (instant + 1) (next - (instant + 1)) (last - next) next (omega arith) is.place
    (λ k from below. fails (is_place profile base k) (is.nearest k (omega arith) below)) in
    ap (λ (n : ℕ). map (place_at profile base) (filter (is_place profile base) (range_with_len (instant + 1) n))) all
    ∙ ap (map (place_at profile base)) one

-- no places, if the nearest is past the last instant
pub places_past : (profile : Profile) (base instant last next : ℕ) → IsNextPlace profile base instant (Some next) → last < next
    → places_after profile base instant last ≡ []
places_past profile base instant last next is past =
    ap (map (place_at profile base)) (none_of (is_place profile base) (instant + 1) (last - instant)
    (λ k from below. fails (is_place profile base k) (is.nearest k (omega arith) (omega arith))))

-- no places, if there is no nearest one
pub places_none : (profile : Profile) (base instant last : ℕ) → IsNextPlace profile base instant None → last ≤ last_second
    → places_after profile base instant last ≡ []
places_none profile base instant last is up =
    ap (map (place_at profile base)) (none_of (is_place profile base) (instant + 1) (last - instant)
    (λ k from below. fails (is_place profile base k) (is k (omega arith) (omega arith))))
