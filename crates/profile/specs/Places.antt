-- The places of a profile: the instants at which its limit can change.
use Rattle.std.specs.Prelude.{ℕ, ◌==◌, Bool, false, ◌||◌, IsTrue, Option, Some, None}
use Rattle.std.specs.List.{list_any}
use Rattle.profile.specs.declared.period.Period.{Period}
use Rattle.profile.specs.declared.schedule.Schedule.{Schedule}
use Rattle.profile.specs.declared.charging_profile.Profile.{Profile}
use Rattle.profile.specs.ChargingProfile.{offset}

abbrev pub is_at : ℕ → Option ℕ → Bool
is_at n None = false
is_at n (Some bound) = n == bound

-- A schedule turns when it begins, when one of its periods starts, and when its duration ends (OCPP
-- 1.6, chapter 7, ChargingSchedule and ChargingSchedulePeriod).
abbrev pub is_turn : Schedule → ℕ → Bool
is_turn schedule offset =
    (offset == 0)
    || (list_any (λ (period : Period). offset == period.start) schedule.periods
    || is_at offset schedule.duration)

-- whether a schedule turns at an optional offset: before the anchor there is none, and so no turn
abbrev pub is_turn_at : Schedule → Option ℕ → Bool
is_turn_at schedule None = false
is_turn_at schedule (Some offset) = is_turn schedule offset

-- An instant is a place of a profile if it is its validFrom or validTo, or if its schedule turns
-- then (OCPP 1.6, 3.13 and chapter 7, ChargingProfile). A recurring schedule passes its offsets
-- again and again, but never one that is at least its day or week.
abbrev pub is_place : Profile → ℕ → ℕ → Bool
is_place profile base instant =
    is_at instant profile.valid_from
    || (is_at instant profile.valid_to || is_turn_at profile.schedule (offset profile base instant))

abbrev pub IsPlace : Profile → ℕ → ℕ → Type 0
IsPlace profile base instant = IsTrue (is_place profile base instant)
