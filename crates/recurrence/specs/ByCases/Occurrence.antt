-- For private clauses: the progress of a profile in an occurrence of its schedule.
use Rattle.std.specs.Prelude.{◌≡◌, ℕ, ◌-◌, ◌<◌, ◌≤◌, ◌&&◌, nat_le, Bool, true, false, List, ◌∷◌, Option, None, if◌then◌else◌}
use Rattle.std.specs.List.Sorted.{IsPartitionPoint}
use Rattle.profile.specs.declared.period.Period.{Period}
use Rattle.profile.specs.declared.charging_profile.Profile.{Profile}
use Rattle.profile.specs.Kind.{offset_after}
use Rattle.profile.specs.Periods.{limit_in}
use Rattle.profile.specs.ChargingProfile.{is_before, is_valid_at, rate}
use Rattle.profile.specs.Places.{is_at, is_place}
use Rattle.recurrence.specs.declared.place.Place.{Place}
use Rattle.recurrence.specs.declared.occurrence.Occurrence.{Occurrence}
use Rattle.recurrence.specs.Places.{places_after}
use Rattle.recurrence.specs.ByCases.Next.{is_start}

-- exactly the first `begun` periods have begun by an offset
abbrev pub IsBegunUpTo : List Period → ℕ → ℕ → Type 0
IsBegunUpTo periods offset begun =
    IsPartitionPoint (λ (p : Period). nat_le p.start offset ≡ true)
    (λ (p : Period). nat_le p.start offset ≡ false) periods begun

-- whether a period that has begun sets the limit: the duration isn't over, and the profile is valid
abbrev pub is_live_at : Profile → ℕ → ℕ → Bool
is_live_at profile offset instant =
    is_before offset profile.schedule.duration && is_valid_at profile instant

abbrev pub if_live : Bool → Option ℕ → Option ℕ
if_live is_live limit = if is_live then limit else None

-- From a second up to a fence, the validity of the profile doesn't change, its duration doesn't
-- end, and it stays in the occurrence that began at `begin`.
pub record IsFence (profile : Profile) (anchor begin second fence : ℕ) : Type 0 where
  pub from : (k : ℕ) → second < k → k < fence → is_at k profile.valid_from ≡ false
  pub to : (k : ℕ) → second < k → k < fence → is_at k profile.valid_to ≡ false
  pub end : (k : ℕ) → second < k → k < fence → is_at (k - begin) profile.schedule.duration ≡ false
  pub round : (k : ℕ) → second < k → k < fence → offset_after profile.kind (k - anchor) ≡ k - begin

-- From an instant up to the fence, only the start of a period is a place, and the limit is that of
-- the period, or none.
pub record IsOccurrence (profile : Profile) (base after : ℕ) (o : Occurrence) : Type 0 where
  pub begins : o.begin ≤ after
  pub begun : IsBegunUpTo profile.schedule.periods (after - o.begin) o.begun
  pub places : (k : ℕ) → after < k → k < o.fence
      → is_place profile base k ≡ is_start profile.schedule.periods (k - o.begin)
  pub rates : (k : ℕ) → after < k → k < o.fence
      → rate profile base k ≡ if_live o.is_live (limit_in profile.schedule.periods (k - o.begin))

-- the first of the places, and the occurrence from there on
pub record IsNextPeriod (profile : Profile) (base after last : ℕ) (place : Place)
    (o : Occurrence) : Type 0 where
  pub first : places_after profile base after last
      ≡ place ∷ places_after profile base place.instant last
  pub occurrence : IsOccurrence profile base place.instant o
