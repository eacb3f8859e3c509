-- The reading of an instant's text: the instant or the fault. By the law `instant_texts` it is the
-- reading of `InstantText`.
use Rattle.std.specs.Prelude.{ℕ, ◌+◌, ◌-◌, ◌*◌, Bool, ◌==◌, ◌&&◌, ◌||◌, nat_le, nat_lt, int_le, if◌then◌else◌, List, [], ◌∷◌, length, ℤ, pos, neg_ℤ, ◌+ℤ◌, ◌-ℤ◌, ◌*ℤ◌, unsigned_abs, Option, Some, None, option_map, Result, Ok, Err}
use Rattle.std.specs.Char.{is_ascii_digit}
use Rattle.jiff_core.specs.Calendar.{days_from_civil, days_in_month}
use Rattle.ocpp_scalars.specs.declared.instant_text.InstantFault.{InstantFault}
use Rattle.ocpp_scalars.specs.declared.instant_text.InstantFault.TheVariants.{Form, Range}
use Rattle.ocpp_scalars.specs.Ascii.{space, plus, minus, dot, digit_zero, colon, upper_t, upper_z, lower_t, lower_z}
use Rattle.ocpp_scalars.specs.ByCases.Digits.{digits_of, after_digits, is_empty}
use Rattle.ocpp_scalars.specs.Limits.{last_second, max_fraction_digits}
use Rattle.ocpp_scalars.specs.OptionSteps.{◌>>=◌}

-- the value of the beginning of a text, and the rest of it
abbrev pub Part : Type 0 → Type 0
Part A = Option (A × List ℕ)

abbrev pub digit_at : List ℕ → Part ℕ
digit_at [] = None
digit_at (b ∷ bs) = if is_ascii_digit b then Some (b - digit_zero, bs) else None

abbrev pub two_at : List ℕ → Part ℕ
two_at text = do
  (tens, after_tens) ← digit_at text
  (ones, rest) ← digit_at after_tens
  Some (tens * 10 + ones, rest)

abbrev pub four_at : List ℕ → Part ℕ
four_at text = do
  (hundreds, after_hundreds) ← two_at text
  (ones, rest) ← two_at after_hundreds
  Some (hundreds * 100 + ones, rest)

-- the rest after one of some bytes
abbrev pub after_byte : (ℕ → Bool) → List ℕ → Option (List ℕ)
after_byte test [] = None
after_byte test (b ∷ bs) = if test b then Some bs else None

abbrev pub after_dash : List ℕ → Option (List ℕ)
after_dash text = after_byte (λ b. b == minus) text

abbrev pub after_colon : List ℕ → Option (List ℕ)
after_colon text = after_byte (λ b. b == colon) text

-- the rest after `T`, `t` or a space
abbrev pub after_separator : List ℕ → Option (List ℕ)
after_separator text = after_byte (λ b. (b == upper_t) || ((b == lower_t) || (b == space))) text

-- the calendar has this day
abbrev pub is_day : ℕ → ℕ → ℕ → Bool
is_day year month day =
    (nat_le 1 month && nat_le month 12) && (nat_le 1 day && nat_le day (days_in_month (pos year) month))

-- the number of the calendar's day, 0 for 1 January 1970
abbrev pub day_number : ℕ → ℕ → ℕ → Option ℤ
day_number year month day =
    if is_day year month day then Some (days_from_civil (pos year) month day) else None

-- `YYYY-MM-DD`, as the number of the day
unfoldable pub date_at : List ℕ → Part ℤ
date_at text = do
  (year, after_year) ← four_at text
  month_text ← after_dash after_year
  (month, after_month) ← two_at month_text
  day_text ← after_dash after_month
  (day, rest) ← two_at day_text
  number ← day_number year month day
  Some (number, rest)

-- `hh:mm`, in minutes
unfoldable pub minutes_at : List ℕ → Part ℕ
minutes_at text = do
  (hour, after_hour) ← two_at text
  minute_text ← after_colon after_hour
  (minute, rest) ← two_at minute_text
  if nat_lt hour 24 && nat_lt minute 60 then Some (hour * 60 + minute, rest) else None

-- `hh:mm:ss`, in seconds
unfoldable pub time_at : List ℕ → Part ℕ
time_at text = do
  (minutes, after_minutes) ← minutes_at text
  second_text ← after_colon after_minutes
  (second, rest) ← two_at second_text
  if nat_lt second 60 then Some (minutes * 60 + second, rest) else None

-- the rest after a number of digits of a fraction
abbrev pub after_some_digits : ℕ → List ℕ → Option (List ℕ)
after_some_digits count rest = if nat_le 1 count && nat_le count max_fraction_digits then Some rest else None

-- the rest after a point with digits, or after no point
abbrev pub after_fraction : List ℕ → Option (List ℕ)
after_fraction [] = Some []
after_fraction (b ∷ bs) =
    if b == dot then after_some_digits (length (digits_of bs)) (after_digits bs)
    else Some (b ∷ bs)

-- `hh:mm` that ends the text, in seconds
abbrev pub clock_in : List ℕ → Option ℕ
clock_in text = do
  (minutes, rest) ← minutes_at text
  if is_empty rest then Some (minutes * 60) else None

abbrev pub zulu_in : List ℕ → Option ℤ
zulu_in text = if is_empty text then Some (pos 0) else None

-- the offset that ends the text, in seconds
abbrev pub offset_in : List ℕ → Option ℤ
offset_in [] = Some (pos 0)
offset_in (b ∷ bs) =
    if (b == upper_z) || (b == lower_z) then zulu_in bs
    else if b == plus then option_map pos (clock_in bs)
    else if b == minus then option_map (λ n. neg_ℤ (pos n)) (clock_in bs)
    else None

-- the seconds up to a time of day, less the offset
abbrev pub total_seconds : ℤ → ℕ → ℤ → ℤ
total_seconds date time offset = (date *ℤ pos 86_400 +ℤ pos time) -ℤ offset

-- the seconds since 1970-01-01T00:00:00Z of a whole text
unfoldable pub seconds_of : List ℕ → Option ℤ
seconds_of text = do
  (date, after_date) ← date_at text
  time_text ← after_separator after_date
  (time, after_time) ← time_at time_text
  offset_text ← after_fraction after_time
  offset ← offset_in offset_text
  Some (total_seconds date time offset)

-- from 1970 to the end of the year 9999
abbrev pub in_range : ℤ → Result ℕ InstantFault
in_range z = if int_le (pos 0) z && int_le z (pos last_second) then Ok (unsigned_abs z) else Err Range

abbrev pub reading : Option ℤ → Result ℕ InstantFault
reading None = Err Form
reading (Some z) = in_range z

-- the reading of a text as an instant
unfoldable pub instant_of : List ℕ → Result ℕ InstantFault
instant_of text = reading (seconds_of text)
