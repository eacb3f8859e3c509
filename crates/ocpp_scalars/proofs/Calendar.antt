-- The days from 1970 on, counted one after another, are those of the calendar.
use Rattle.std.proofs.Common.{◌≡◌, ℕ, zero, suc, ◌+◌, ◌≤◌, nat_lt, Bool, true, false, if◌then◌else◌, refl, sym, ◌∙◌, inl, inr, arith, ltb-true, ltb-false, rules, pos}
use Rattle.std.proofs.lemmas.Bool.{cases_lt}
use Rattle.jiff_core.specs.Calendar.{days_in_month, days_from_civil, IsCivilDate}
use Rattle.jiff_core.specs.Date.{epoch_day}
use Rattle.jiff_core.specs.declared.civil.date.Date.{Date}
use Rattle.jiff_core.proofs.CalendarLemmas.{day_count-epoch, days_from_civil-day_count, day_count-lt_year, days_in_month_bounds}
use Rattle.jiff_core.proofs.DateLemmas.{epoch_day_injective, days_from_civil-day, days_from_civil-next_month, days_from_civil-next_year, days_from_civil-max}
use Rattle.jiff_core.proofs.SignedLemmas.{signed_arith}
use Rattle.ocpp_scalars.specs.CalendarDay.{CalendarDay, first_of_next_month, calendar_day}

-- the day of the calendar with this number
pub record IsDayNumber (d : CalendarDay) (n : ℕ) : Type 0 where
  pub month_low : 1 ≤ d.month
  pub month_high : d.month ≤ 12
  pub day_low : 1 ≤ d.day
  pub day_high : d.day ≤ days_in_month (pos d.year) d.month
  pub number : days_from_civil (pos d.year) d.month d.day ≡ pos n

month_step : (d : CalendarDay) (n : ℕ) → IsDayNumber d n
    → d.day ≡ days_in_month (pos d.year) d.month → (b : Bool) → nat_lt d.month 12 ≡ b
    → IsDayNumber (if b then record {
      year = d.year;
      month = d.month + 1;
      day =
          1;
    } else record { year = d.year + 1; month = 1; day = 1 }) (suc n)
month_step d n h last true e = record {
  month_low = omega arith;
  month_high = omega (arith, ltb-true d.month 12 e);
  day_low = omega arith;
  day_high = omega (arith, days_in_month_bounds (pos d.year) (d.month + 1));
  number = omega (arith, signed_arith, days_from_civil-next_month (pos d.year) d.month d.day h.month_low last, h.number);
}
month_step d n h last false e =
    let december : d.month ≡ 12 = omega (arith, ltb-false d.month 12 e, h.month_high) in
    let long : d.day ≡ 31 = last ∙ rw december refl in
    let here : days_from_civil (pos d.year) 12 31 ≡ pos n = rw (december, long) at h.number in
    record {
      month_low = omega arith;
      month_high = omega arith;
      day_low = omega arith;
      day_high = omega (arith, days_in_month_bounds (pos (d.year + 1)) 1);
      number = omega (arith, signed_arith, days_from_civil-next_year (pos d.year) (pos (d.year + 1)) (omega (arith, signed_arith)) refl, here);
    }

day_step : (d : CalendarDay) (n : ℕ) → IsDayNumber d n → (b : Bool)
    → nat_lt d.day (days_in_month (pos d.year) d.month) ≡ b
    → IsDayNumber (if b then record {
      year = d.year;
      month = d.month;
      day =
          d.day + 1;
    } else first_of_next_month d) (suc n)
day_step d n h true e = record {
  month_low = h.month_low;
  month_high = h.month_high;
  day_low = omega arith;
  day_high = omega (arith, ltb-true d.day (days_in_month (pos d.year) d.month) e);
  number = omega (arith, signed_arith, days_from_civil-day (pos d.year) d.month d.day (d.day + 1) h.day_low (omega arith), h.number);
}
day_step d n h false e = month_step d n h (omega (arith, ltb-false d.day (days_in_month (pos d.year) d.month) e, h.day_high)) (nat_lt d.month 12) refl

pub calendar_day-number : (n : ℕ) → IsDayNumber (calendar_day n) n
unfolding calendar_day
calendar_day-number zero = record {
  month_low = omega arith;
  month_high = omega arith;
  day_low = omega arith;
  day_high = omega arith;
  number = omega (arith, signed_arith, days_from_civil-day_count (pos 1970) 1 1, day_count-epoch);
}
calendar_day-number (suc n) =
    let d = calendar_day n in
    day_step d n (calendar_day-number n) (nat_lt d.day (days_in_month (pos d.year) d.month)) refl

-- no year past 9999 has a day before its end
year_bound : (d : CalendarDay) (n : ℕ) → IsDayNumber d n → n ≤ 2_932_896 → d.year ≤ 9999
year_bound d n h low =
    elim (cases_lt 9999 d.year) [
      | inl past ↦ absurd (omega (
        arith,
        signed_arith,
        h.number,
        days_from_civil-max,
        days_from_civil-day_count
            (pos 9999) 12 31,
        days_from_civil-day_count (pos d.year) d.month d.day,
        day_count-lt_year
            (pos 9999) 12 31 (pos d.year) d.month d.day (search rules) h.day_low (omega
            (arith, signed_arith)),
      ))
      | inr within ↦ within
    ]

pub calendar_day-year : (n : ℕ) → n ≤ 2_932_896 → (calendar_day n).year ≤ 9999
calendar_day-year n low = year_bound (calendar_day n) n (calendar_day-number n) low

-- the calendar has the day
pub calendar_day-civil : (n : ℕ) → n ≤ 2_932_896 → IsCivilDate (pos (calendar_day n).year) (calendar_day n).month (calendar_day n).day
calendar_day-civil n low =
    let h = calendar_day-number n in
    let year = calendar_day-year n low in
    ((omega (arith, signed_arith, year), omega (arith, signed_arith, year)), (h.month_low, h.month_high), (h.day_low, h.day_high))

-- a date with this number is the day
pub same_day : (date : Date) (n : ℕ) → n ≤ 2_932_896 → epoch_day date ≡ pos n → (date.year ≡ pos (calendar_day n).year) × (date.month ≡ (calendar_day n).month) × (date.day ≡ (calendar_day n).day)
same_day date n low e =
    let d = calendar_day n in
    let civil = calendar_day-civil n low in
    let that : Date = record { year = pos d.year; month = d.month; day = d.day; year_in = civil.0; month_in = civil.1; day_in = civil.2 } in
    epoch_day_injective date that (e ∙ sym (calendar_day-number n).number)
