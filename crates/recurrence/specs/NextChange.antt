-- The next instant at which the limit of a profile can change.
use Rattle.std.specs.Prelude.{◌≡◌, ℕ, ◌<◌, ◌≤◌, Option, Some, None}
use Rattle.ocpp_scalars.specs.Limits.{last_second}
use Rattle.profile.specs.declared.charging_profile.Profile.{Profile}
use Rattle.profile.specs.ChargingProfile.{rate}
use Rattle.profile.specs.Places.{IsPlace}

-- the nearest place of a profile after an instant
pub record IsNearestPlace (profile : Profile) (base instant next : ℕ) : Type 0 where
  pub later : instant < next
  pub in_calendar : next ≤ last_second
  pub place : IsPlace profile base next
  pub nearest : (k : ℕ) → instant < k → k < next → ¬ (IsPlace profile base k)

-- the nearest place after an instant; with None, there is none up to the last instant
abbrev pub IsNextPlace : Profile → ℕ → ℕ → Option ℕ → Type 0
IsNextPlace profile base instant None = (k : ℕ) → instant < k → k ≤ last_second → ¬ (IsPlace profile base k)
IsNextPlace profile base instant (Some next) = IsNearestPlace profile base instant next

-- The rate of a profile, or that it has none, is the same at every second from an instant up to the
-- next one, exclusive, or up to the last instant if there is no next one.
abbrev pub HasOneRateUntil : Profile → ℕ → ℕ → Option ℕ → Type 0
HasOneRateUntil profile base instant None =
    (k : ℕ) → instant ≤ k → k ≤ last_second → rate profile base k ≡ rate profile base instant
HasOneRateUntil profile base instant (Some next) =
    (k : ℕ) → instant ≤ k → k < next → rate profile base k ≡ rate profile base instant
