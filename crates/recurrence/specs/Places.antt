-- The places of a profile in an interval of time, in order, each with the limit there.
use Rattle.std.specs.Prelude.{ℕ, ◌+◌, ◌-◌, List, map, filter}
use Rattle.std.specs.List.{range_with_len}
use Rattle.profile.specs.declared.charging_profile.Profile.{Profile}
use Rattle.profile.specs.ChargingProfile.{rate}
use Rattle.profile.specs.Places.{is_place}
use Rattle.recurrence.specs.declared.place.Place.{Place}

-- an instant, and the limit that a profile has there, counted from a base
abbrev pub place_at : Profile → ℕ → ℕ → Place
place_at profile base instant = record { instant = instant; rate = rate profile base instant }

-- the instants later than one and up to a last one, in order
abbrev pub instants_after : ℕ → ℕ → List ℕ
instants_after instant last = range_with_len (instant + 1) (last - instant)

-- those of them at which the limit of a profile can change (OCPP 1.6, 3.13 and chapter 7,
-- ChargingProfile and ChargingSchedule)
abbrev pub places_after : Profile → ℕ → ℕ → ℕ → List Place
places_after profile base instant last =
    map (place_at profile base) (filter (is_place profile base) (instants_after instant last))
