-- The seconds of a profile's schedule, by its kind.
use Rattle.std.specs.Prelude.{ℕ, ◌%◌, Option, Some, None}
use Rattle.profile.specs.Limits.{day, week}
use Rattle.profile.specs.declared.kind.Recurrency.{Recurrency}
use Rattle.profile.specs.declared.kind.Recurrency.TheVariants.{Daily, Weekly}
use Rattle.profile.specs.declared.kind.ProfileKind.{ProfileKind}
use Rattle.profile.specs.declared.kind.ProfileKind.TheVariants as given
use Rattle.profile.specs.declared.kind.Kind.{Kind}
use Rattle.profile.specs.declared.kind.Kind.TheVariants.{Absolute, Recurring, Relative}

-- the seconds after which a recurring schedule begins again (OCPP 1.6, chapter 7,
-- RecurrencyKindType)
abbrev pub recurrence_length : Recurrency → ℕ
recurrence_length Daily = day
recurrence_length Weekly = week

-- the kind of a profile: chargingProfileKind with its recurrencyKind; none if a Recurring profile
-- lacks it (OCPP 1.6, chapter 7, ChargingProfile)
abbrev pub kind_of : ProfileKind → Option Recurrency → Option Kind
kind_of given.Absolute recurrency = Some Absolute
kind_of given.Recurring None = None
kind_of given.Recurring (Some recurrency) = Some (Recurring recurrency)
kind_of given.Relative recurrency = Some Relative

-- startSchedule, which a Relative schedule doesn't have (OCPP 1.6, chapter 7, ChargingSchedule)
abbrev pub start_of : Kind → Option ℕ → Option ℕ
start_of Absolute start = start
start_of (Recurring recurrency) start = start
start_of Relative start = None

-- the offset in a profile's schedule, from the number of seconds since its anchor (OCPP 1.6, 3.13)
abbrev pub offset_after : Kind → ℕ → ℕ
offset_after Absolute seconds = seconds
offset_after (Recurring recurrency) seconds = seconds % recurrence_length recurrency
offset_after Relative seconds = seconds
