-- The days of the Gregorian calendar from 1 January 1970 on, one after another.
use Rattle.std.specs.Prelude.{ℕ, zero, suc, ◌+◌, nat_lt, if◌then◌else◌, pos}
use Rattle.jiff_core.specs.Calendar.{days_in_month}

pub record CalendarDay : Type 0 where
  pub year : ℕ
  pub month : ℕ
  pub day : ℕ

abbrev pub first_of_next_month : CalendarDay → CalendarDay
first_of_next_month d =
    if nat_lt d.month 12 then record { year = d.year; month = d.month + 1; day = 1 }
    else record { year = d.year + 1; month = 1; day = 1 }

abbrev pub next_day : CalendarDay → CalendarDay
next_day d =
    if nat_lt d.day (days_in_month (pos d.year) d.month)
    then record { year = d.year; month = d.month; day = d.day + 1 }
    else first_of_next_month d

-- the day that is a number of days after 1 January 1970
unfoldable pub calendar_day : ℕ → CalendarDay
calendar_day zero = record { year = 1970; month = 1; day = 1 }
calendar_day (suc n) = next_day (calendar_day n)
