-- Lemmas that crates above cite: nothing here has to be believed.
-- Rates between the places after an instant.
use Rattle.std.proofs.Common.{◌≡◌, ℕ, ◌+◌, ◌-◌, ◌<◌, ◌≤◌, zero, suc, Bool, true, false, List, [], ◌∷◌, map, filter, cond, ⊎_elim, refl, ap, sym, ◌∙◌, arith}
use Rattle.std.specs.List.{range_with_len}
use Rattle.std.proofs.lemmas.Bool.{cases_lt}
use Rattle.profile.specs.declared.charging_profile.Profile.{Profile}
use Rattle.profile.specs.ChargingProfile.{rate}
use Rattle.profile.specs.Places.{is_place}
use Rattle.recurrence.specs.declared.place.Place.{Place}
use Rattle.recurrence.specs.Places.{place_at, instants_after, places_after}
use Rattle.recurrence.specs.Theory.Rates.{rate_until}

-- the first number of a range that passes a test, and the others that do
record IsFirstOf (test : ℕ → Bool) (a n first : ℕ) (others : List ℕ) : Type 0 where
  from : a ≤ first
  before : first < a + n
  passes : test first ≡ true
  fails : (k : ℕ) → a ≤ k → k < first → test k ≡ false
  rest : others ≡ filter test (range_with_len (first + 1) (a + n - (first + 1)))

some_first : (test : ℕ → Bool) (a n first : ℕ) (others : List ℕ) → filter test (range_with_len a n) ≡ first ∷ others → IsFirstOf test a n first others
some_first test a zero first others h = cc
some_first test a (suc n) first others h = go (test a) refl h (some_first test (a + 1) n first others)
  where
    go : (b : Bool) → test a ≡ b → cond b (a ∷ filter test (range_with_len (a + 1) n)) (filter test (range_with_len (a + 1) n)) ≡ first ∷ others
        → (filter test (range_with_len (a + 1) n) ≡ first ∷ others → IsFirstOf test (a + 1) n first others) → IsFirstOf test a (suc n) first others
    go true here h later =
        let is : a ≡ first = cc in
        let same : filter test (range_with_len (a + 1) n) ≡ others = cc in
        let many : a + suc n - (first + 1) ≡ n = omega (arith, is) in
        let next : a + 1 ≡ first + 1 = omega (arith, is) in
        record {
          from = omega (arith, is);
          before = omega (arith, is);
          passes = ap test (sym is) ∙ here;
          fails = λ k from below. absurd (omega (arith, is, from, below));
          rest = sym same ∙ (ap (λ (m : ℕ). filter test (range_with_len m n)) next ∙ ap (λ (m : ℕ). filter test (range_with_len (first + 1) m)) (sym many));
        }
    go false here h later =
        let is = later h in
        let many : a + 1 + n - (first + 1) ≡ a + suc n - (first + 1) = omega arith in
        record {
          from = omega (arith, is.from);
          before = omega (arith, is.before);
          passes = is.passes;
          fails = λ k from below. ⊎_elim
              (λ (at : k < a + 1). let e : a ≡ k = omega (arith, at, from) in ap test (sym e) ∙ here)
              (λ (above : a + 1 ≤ k). is.fails k above below)
              (cases_lt k (a + 1));
          rest = is.rest ∙ ap (λ (m : ℕ). filter test (range_with_len (first + 1) m)) many;
        }

none_passes : (test : ℕ → Bool) (a n : ℕ) → filter test (range_with_len a n) ≡ [] → (k : ℕ) → a ≤ k → k < a + n → test k ≡ false
none_passes test a zero h k from below = absurd (omega (arith, from, below))
none_passes test a (suc n) h k from below = go (test a) refl h (λ rest. none_passes test (a + 1) n rest k)
  where
    go : (b : Bool) → test a ≡ b → cond b (a ∷ filter test (range_with_len (a + 1) n)) (filter test (range_with_len (a + 1) n)) ≡ []
        → (filter test (range_with_len (a + 1) n) ≡ [] → a + 1 ≤ k → k < a + 1 + n → test k ≡ false) → test k ≡ false
    go true here h later = cc
    go false here h later = ⊎_elim
        (λ (at : k < a + 1). let e : a ≡ k = omega (arith, at, from) in ap test (sym e) ∙ here)
        (λ (above : a + 1 ≤ k). later h above (omega (arith, below)))
        (cases_lt k (a + 1))

-- the first of the places after an instant: the rate is constant up to it, and the others are those
-- after it
pub record IsNextOf (profile : Profile) (base instant last : ℕ) (place : Place) (others : List Place) : Type 0 where
  pub later : instant < place.instant
  pub within : place.instant ≤ last
  pub is_place : is_place profile base place.instant ≡ true
  pub has_rate : place.rate ≡ rate profile base place.instant
  pub stays : (k : ℕ) → instant ≤ k → k < place.instant → rate profile base k ≡ rate profile base instant
  pub rest : others ≡ places_after profile base place.instant last

pub next_of : (profile : Profile) (base instant last : ℕ) (place : Place) (others : List Place) → places_after profile base instant last ≡ place ∷ others
    → IsNextOf profile base instant last place others
next_of profile base instant last place others h = go (filter (is_place profile base) (instants_after instant last)) refl h
  where
    go : (found : List ℕ) → filter (is_place profile base) (instants_after instant last) ≡ found → map (place_at profile base) found ≡ place ∷ others
        → IsNextOf profile base instant last place others
    go [] is h = cc
    go (first ∷ later) is h =
        let facts = some_first (is_place profile base) (instant + 1) (last - instant) first later is in
        let at : place_at profile base first ≡ place = cc in
        let here : first ≡ place.instant = ap (λ (p : Place). p.instant) at in
        let same : map (place_at profile base) later ≡ others = cc in
        let many : instant + 1 + (last - instant) - (first + 1) ≡ last - first = omega (arith, facts.from, facts.before) in
        let after : first < instant + 1 + (last - instant) = facts.before in
        record {
          later = omega (arith, facts.from, here);
          within = omega (arith, after, here, facts.from);
          is_place = ap (is_place profile base) (sym here) ∙ facts.passes;
          has_rate = sym (ap (λ (p : Place). p.rate) at) ∙ ap (rate profile base) here;
          stays = λ k from below. rate_until profile base instant k from
              (λ j past upto. facts.fails j (omega (arith, past)) (omega (arith, upto, below, here)));
          rest = sym same
              ∙ (ap (map (place_at profile base)) facts.rest
              ∙ (ap (λ (m : ℕ). map (place_at profile base) (filter (is_place profile base) (range_with_len (first + 1) m))) many
              ∙ ap (λ (m : ℕ). places_after profile base m last) here));
        }

-- if no place is left, the rate is constant
pub stays_on : (profile : Profile) (base instant last : ℕ) → places_after profile base instant last ≡ [] → (k : ℕ) → instant ≤ k → k ≤ last
    → rate profile base k ≡ rate profile base instant
stays_on profile base instant last h k from upto =
    rate_until profile base instant k from
    (λ j past below. none_passes (is_place profile base) (instant + 1) (last - instant) (none (filter (is_place profile base) (instants_after instant last)) h)
    j (omega (arith, past)) (omega (arith, below, upto, from)))
  where
    none : (found : List ℕ) → map (place_at profile base) found ≡ [] → found ≡ []
    none [] h = refl
    none (first ∷ later) h = cc
