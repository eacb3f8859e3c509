-- A profile that never has a rate, and why.
use Rattle.std.specs.Prelude.{◌≡◌, ◌+◌, ◌<◌, ℕ, nat_le, Bool, true, false, ◌&&◌, ◌==◌, List, Option, Some, None, if◌then◌else◌}
use Rattle.std.specs.List.{list_all}
use Rattle.profile.specs.declared.kind.Kind.{Kind}
use Rattle.profile.specs.declared.kind.Kind.TheVariants.{Absolute, Recurring, Relative}
use Rattle.profile.specs.declared.period.Period.{Period}
use Rattle.profile.specs.declared.charging_profile.Profile.{Profile}
use Rattle.profile.specs.Kind.{recurrence_length}
use Rattle.profile.specs.Periods.{limit_in}
use Rattle.profile.specs.ChargingProfile.{rate}
use Rattle.profile_findings.specs.declared.never.NeverRated.{NeverRated}
use Rattle.profile_findings.specs.declared.never.NeverRated.TheVariants.{EmptyValidity, ValidBeforeStart, ValidAfterEnd, NoDuration, PeriodsPastDuration, PeriodsPastRecurrence}

-- no second has a rate, whatever the base (OCPP 1.6, 3.13)
abbrev pub IsNeverRated : Profile → Type 0
IsNeverRated profile = (base instant : ℕ) → rate profile base instant ≡ None

-- before this offset no period of the schedule has begun
abbrev pub HasNoPeriodBefore : Profile → ℕ → Type 0
HasNoPeriodBefore profile end =
    (offset : ℕ) → offset < end → limit_in profile.schedule.periods offset ≡ None

-- ---- the causes, by the fields of OCPP 1.6, chapter 7

-- both are present, and the first isn't after the second
abbrev pub is_not_after : Option ℕ → Option ℕ → Bool
is_not_after None later = false
is_not_after (Some instant) None = false
is_not_after (Some instant) (Some later) = nat_le instant later

-- validTo isn't after validFrom
abbrev pub has_empty_validity : Profile → Bool
has_empty_validity profile = is_not_after profile.valid_to profile.valid_from

-- validTo isn't after startSchedule
abbrev pub is_valid_before_start : Profile → Bool
is_valid_before_start profile = is_not_after profile.valid_to profile.schedule.start

abbrev pub is_absolute : Kind → Bool
is_absolute Absolute = true
is_absolute (Recurring recurrency) = false
is_absolute Relative = false

-- the end of a schedule with a startSchedule and a duration
abbrev pub end_of : Option ℕ → Option ℕ → Option ℕ
end_of None duration = None
end_of (Some start) None = None
end_of (Some start) (Some duration) = Some (start + duration)

-- an Absolute schedule ends at validFrom or earlier
abbrev pub is_valid_after_end : Profile → Bool
is_valid_after_end profile =
    is_absolute profile.kind
    && is_not_after (end_of profile.schedule.start profile.schedule.duration) profile.valid_from

-- duration is 0
abbrev pub is_zero : Option ℕ → Bool
is_zero None = false
is_zero (Some number) = number == 0

abbrev pub has_no_duration : Profile → Bool
has_no_duration profile = is_zero profile.schedule.duration

-- an end is given, and each period starts at it or later
abbrev pub start_past : List Period → Option ℕ → Bool
start_past periods None = false
start_past periods (Some end) = list_all (λ (p : Period). nat_le end p.start) periods

-- each period starts at the end of the duration, or later
abbrev pub has_periods_past_duration : Profile → Bool
has_periods_past_duration profile = start_past profile.schedule.periods profile.schedule.duration

-- the number of seconds after which a schedule begins again, if it does
abbrev pub recurs_after : Kind → Option ℕ
recurs_after Absolute = None
recurs_after (Recurring recurrency) = Some (recurrence_length recurrency)
recurs_after Relative = None

-- each period starts at the end of the day or the week of a Recurring schedule, or later
abbrev pub has_periods_past_recurrence : Profile → Bool
has_periods_past_recurrence profile =
    start_past profile.schedule.periods (recurs_after profile.kind)

-- the first cause that holds, in the order of the checks, if one holds
abbrev pub why_never_rated : Profile → Option NeverRated
why_never_rated profile =
    if has_empty_validity profile then Some EmptyValidity
    else if is_valid_before_start profile then Some ValidBeforeStart
    else if is_valid_after_end profile then Some ValidAfterEnd
    else if has_no_duration profile then Some NoDuration
    else if has_periods_past_duration profile then Some PeriodsPastDuration
    else if has_periods_past_recurrence profile then Some PeriodsPastRecurrence
    else None
