-- A profile for a transaction, and the limit of a profile at an instant.
use Rattle.std.specs.Prelude.{ℕ, ℤ, ◌-◌, nat_le, nat_lt, Bool, true, ◌&&◌, Option, Some, None, unwrap_or, option_and_then, if◌then◌else◌}
use Rattle.profile.specs.declared.charging_profile.Profile.{Profile}
use Rattle.profile.specs.Kind.{start_of, offset_after}
use Rattle.profile.specs.Periods.{limit_in}
use Rattle.profile.specs.Purpose.{transaction_of}
use Rattle.profile.specs.ByCases.Parts.{transaction_of_again}

-- A TxProfile for the transaction of a number (OCPP 1.6, chapter 7, ChargingProfile): only that
-- field is set. A profile of another purpose has no transactionId, and is unchanged.
abbrev pub with_transaction : Profile → ℤ → Profile
with_transaction profile id = record profile {
  transaction = transaction_of profile.purpose (Some id);
  own_transaction = transaction_of_again profile.purpose (Some id);
}

-- A profile has no limit before its anchor: its startSchedule, if it has one and isn't Relative,
-- otherwise the base (OCPP 1.6, 3.13 and chapter 7, ChargingProfileKindType).
abbrev pub anchor : Profile → ℕ → ℕ
anchor profile base = unwrap_or (start_of profile.kind profile.schedule.start) base

-- the seconds from the start of the profile's schedule to an instant; none before its anchor
abbrev pub offset : Profile → ℕ → ℕ → Option ℕ
offset profile base instant =
    if nat_lt instant (anchor profile base)
    then None
    else Some (offset_after profile.kind (instant - anchor profile base))

abbrev pub is_before : ℕ → Option ℕ → Bool
is_before n None = true
is_before n (Some bound) = nat_lt n bound

abbrev pub is_from : Option ℕ → ℕ → Bool
is_from None n = true
is_from (Some bound) n = nat_le bound n

-- validFrom is the first valid instant, and validTo the first one that is no longer valid; each
-- only if given (OCPP 1.6, chapter 7, ChargingProfile)
abbrev pub is_valid_at : Profile → ℕ → Bool
is_valid_at profile instant = is_from profile.valid_from instant && is_before instant profile.valid_to

-- the limit at an offset; none from the end of the schedule's duration on (OCPP 1.6, chapter 7,
-- ChargingSchedule)
abbrev pub rate_within : Profile → ℕ → Option ℕ
rate_within profile offset =
    if is_before offset profile.schedule.duration then limit_in profile.schedule.periods offset else None

-- the profile's limit at an instant, in tenths, counted from a base; none if it has none
abbrev pub rate : Profile → ℕ → ℕ → Option ℕ
rate profile base instant =
    if is_valid_at profile instant
    then option_and_then (rate_within profile) (offset profile base instant)
    else None
