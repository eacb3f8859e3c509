-- A profile is refused by the first of its causes.
use Rattle.std.proofs.Common.{◌≡◌, ◌≢◌, ℕ, ◌<◌, ◌≤◌, nat_lt, ◌==◌, true, false, not, ◌&&◌, ◌↔◌, inl, inr, List, [], ◌∷◌, length, Option, Some, None, refl, sym, ap, subst, ◌∙◌, true≢false, arith, ltb-true}
use Rattle.std.specs.Prelude.{slice_get, option_and_then, is_some}
use Rattle.std.proofs.lemmas.Bool.{eqb-true, eqb-false}
use Rattle.std.proofs.lemmas.Bool.Decides.{nat_tests}
use Rattle.ocpp_scalars.specs.declared.refusal.Refusal.{Refusal}
use Rattle.ocpp_scalars.specs.declared.refusal.Refusal.TheVariants.{UnknownConnector, MaxNotAtZero, TxAtZero, WrongUnit}
use Rattle.ocpp_scalars.specs.Causes.{IsFirstCause}
use Rattle.ocpp_scalars.specs.Theory.Causes.{Tested, by_tests, first_cause_law}
use Rattle.profile.specs.declared.charging_profile.Profile.{Profile}
use Rattle.profile.specs.declared.purpose.Purpose.{Purpose}
use Rattle.profile.specs.declared.purpose.Purpose.TheVariants.{ChargePointMaxProfile, TxDefaultProfile, TxProfile}
use Rattle.profile.specs.declared.unit.Unit.{Unit}
use Rattle.profile.specs.declared.unit.Unit.TheVariants.{A, W}
use Rattle.profile.specs.Purpose.{is_charge_point_max, is_tx}
use Rattle.profile.specs.Unit.{unit_eq}
use Rattle.site_rules.specs.Site.{PointEntry, SiteState, HasConnector, place_of, entry_of}
use Rattle.site_rules.specs.Admission.{HasNoPoint, admission_causes, refusal_at, admission_refusal}
use Rattle.site_rules.proofs.ApartLemmas.{unused-place, place-unused}
use Rattle.site_rules.proofs.PointLemmas.{IsPlaceOf-place}

-- ---- the point

-- an identity is found exactly if a point has it
none_found : (site : SiteState) (id : List ℕ) → entry_of site id ≡ None → HasNoPoint site id
none_found site id none = go (place_of site id) refl none
  where
    go : (place : Option ℕ) → place ≡ place_of site id
        → option_and_then (slice_get site.points) place ≡ None → HasNoPoint site id
    go None is none = unused-place site id (ap is_some (sym is))
    go (Some place) is none =
        let there = IsPlaceOf-place site id (Some place) is in
        absurd (nowhere (sym there.here ∙ none))
      where
        nowhere : {point : PointEntry} → Some point ≡ None → ⊥
        nowhere e = cc

one_found : (site : SiteState) (id : List ℕ) (point : PointEntry) → entry_of site id ≡ Some point
    → ¬ HasNoPoint site id
one_found site id point found none = go (place_of site id) (place-unused site id none) found
  where
    go : (place : Option ℕ) → is_some place ≡ false
        → option_and_then (slice_get site.points) place ≡ Some point → ⊥
    go None no_place found = cc
    go (Some place) no_place found = true≢false no_place

-- ---- the connector

same_point : (one other : PointEntry) → Some one ≡ Some other → one ≡ other
same_point one other e = cc

other_connector : (site : SiteState) (id : List ℕ) (connector : ℕ) (point : PointEntry)
    → entry_of site id ≡ Some point → nat_lt (length point.ceilings) connector ≡ true
    → ¬ HasConnector site id connector
other_connector site id connector point found above has =
    let same = same_point has.point point (sym has.here ∙ found) in
    let within = subst (λ (p : PointEntry). connector ≤ length p.ceilings) same has.within in
    absurd (omega (arith, ltb-true (length point.ceilings) connector above, within))

own_connector : (site : SiteState) (id : List ℕ) (connector : ℕ) (point : PointEntry)
    → entry_of site id ≡ Some point → nat_lt (length point.ceilings) connector ≡ false
    → ¬ ¬ HasConnector site id connector
own_connector site id connector point found within lacks =
    lacks (record { point = point; here = found; within = grind (arith, nat_tests) })

-- ---- the profile

is_max : (purpose : Purpose) (connector : ℕ)
    → is_charge_point_max purpose && nat_lt 0 connector ≡ true
    → (purpose ≡ ChargePointMaxProfile) × (0 < connector)
is_max ChargePointMaxProfile connector e = (refl, ltb-true 0 connector e)
is_max TxDefaultProfile connector e = absurd (true≢false (sym e))
is_max TxProfile connector e = absurd (true≢false (sym e))

not_max : (purpose : Purpose) (connector : ℕ)
    → is_charge_point_max purpose && nat_lt 0 connector ≡ false
    → ¬ ((purpose ≡ ChargePointMaxProfile) × (0 < connector))
not_max ChargePointMaxProfile connector e (same, above) =
    let at_zero : connector ≤ 0 = grind (arith, nat_tests) in absurd (omega (arith, at_zero, above))
not_max TxDefaultProfile connector e (same, above) = cc
not_max TxProfile connector e (same, above) = cc

is_tx_at_zero : (purpose : Purpose) (connector : ℕ) → is_tx purpose && (connector == 0) ≡ true
    → (purpose ≡ TxProfile) × (connector ≡ 0)
is_tx_at_zero ChargePointMaxProfile connector e = absurd (true≢false (sym e))
is_tx_at_zero TxDefaultProfile connector e = absurd (true≢false (sym e))
is_tx_at_zero TxProfile connector e = (refl, eqb-true connector 0 e)

not_tx_at_zero : (purpose : Purpose) (connector : ℕ) → is_tx purpose && (connector == 0) ≡ false
    → ¬ ((purpose ≡ TxProfile) × (connector ≡ 0))
not_tx_at_zero ChargePointMaxProfile connector e (same, zero) = cc
not_tx_at_zero TxDefaultProfile connector e (same, zero) = cc
not_tx_at_zero TxProfile connector e (same, zero) = absurd (eqb-false connector 0 e zero)

other_unit : (one other : Unit) → not (unit_eq one other) ≡ true → one ≢ other
other_unit A A e same = true≢false (sym e)
other_unit A W e same = cc
other_unit W A e same = cc
other_unit W W e same = true≢false (sym e)

same_unit : (one other : Unit) → not (unit_eq one other) ≡ false → ¬ (one ≢ other)
same_unit A A e differ = differ refl
same_unit A W e differ = true≢false e
same_unit W A e differ = true≢false e
same_unit W W e differ = differ refl

-- ---- the first cause

admission_cause : (site : SiteState) (id : List ℕ) (connector : ℕ) (profile : Profile)
    → IsFirstCause (admission_causes site id connector profile)
    (admission_refusal site id connector profile)
admission_cause site id connector profile = go (entry_of site id) refl
  where
    go : (entry : Option PointEntry) → entry_of site id ≡ entry
        → IsFirstCause (admission_causes site id connector profile)
        (refusal_at site.unit entry connector profile)
    go None found = inl (none_found site id found, refl)
    go (Some point) found =
        let tests : List Tested =
        record {
          refusal = UnknownConnector;
          holds = ¬ HasConnector site id connector;
          test = nat_lt (length point.ceilings) connector;
          found = other_connector site id connector point found;
          missed = own_connector site id connector point found;
        }
        ∷ record {
          refusal = MaxNotAtZero;
          holds = (profile.purpose ≡ ChargePointMaxProfile) × (0 < connector);
          test = is_charge_point_max profile.purpose && nat_lt 0 connector;
          found = is_max profile.purpose connector;
          missed = not_max profile.purpose connector;
        }
        ∷ record {
          refusal = TxAtZero;
          holds = (profile.purpose ≡ TxProfile) × (connector ≡ 0);
          test = is_tx profile.purpose && (connector == 0);
          found = is_tx_at_zero profile.purpose connector;
          missed = not_tx_at_zero profile.purpose connector;
        }
        ∷ record {
          refusal = WrongUnit;
          holds = profile.schedule.unit ≢ site.unit;
          test = not (unit_eq profile.schedule.unit site.unit);
          found = other_unit profile.schedule.unit site.unit;
          missed = same_unit profile.schedule.unit site.unit;
        }
        ∷ []
        in
        inr (one_found site id point found, by_tests tests)

pub admissions : (site : SiteState) (id : List ℕ) (connector : ℕ) (profile : Profile)
    (refusal : Option Refusal)
    → (admission_refusal site id connector profile ≡ refusal)
    ↔ IsFirstCause (admission_causes site id connector profile) refusal
admissions site id connector profile refusal =
    first_cause_law (admission_causes site id connector profile)
    (admission_refusal site id connector profile)
    (admission_cause site id connector profile) refusal
