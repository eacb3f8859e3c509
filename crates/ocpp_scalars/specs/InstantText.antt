-- The text of an instant, as it is read (RFC 3339, section 5.6; our departures: the offset may be
-- absent, there are no leap seconds, and a fraction has at most nine digits).
use Rattle.std.specs.Prelude.{◌≡◌, ℕ, ◌+◌, ◌*◌, ◌≤◌, ◌<◌, ◌⊎◌, List, [], ◌∷◌, ◌++◌, length, ℤ, pos, neg_ℤ, ◌+ℤ◌, ◌-ℤ◌, ◌*ℤ◌, ◌<ℤ◌, Result, Ok, Err}
use Rattle.jiff_core.specs.Calendar.{IsCivilDate, days_from_civil}
use Rattle.ocpp_scalars.specs.declared.instant_text.InstantFault.{InstantFault}
use Rattle.ocpp_scalars.specs.declared.instant_text.InstantFault.TheVariants.{Form, Range}
use Rattle.ocpp_scalars.specs.Ascii.{space, plus, minus, dot, colon, upper_t, upper_z, lower_t, lower_z}
use Rattle.ocpp_scalars.specs.Digits.{AreDigits, two_digits, four_digits}
use Rattle.ocpp_scalars.specs.Limits.{last_second, max_fraction_digits}

-- `YYYY-MM-DD`
abbrev pub date_text : ℕ → ℕ → ℕ → List ℕ
date_text year month day = four_digits year ++ (minus ∷ (two_digits month ++ (minus ∷ two_digits day)))

-- `hh:mm`
abbrev pub clock_text : ℕ → ℕ → List ℕ
clock_text hour minute = two_digits hour ++ (colon ∷ two_digits minute)

-- `hh:mm:ss`
abbrev pub time_text : ℕ → ℕ → ℕ → List ℕ
time_text hour minute second = clock_text hour minute ++ (colon ∷ two_digits second)

-- a fraction of a second of at most nine digits, or none
pub data IsSecondFraction : List ℕ → Type 0 where
  no_second_fraction : IsSecondFraction []
  second_fraction :
      (ds : List ℕ) → AreDigits ds → 1 ≤ length ds → length ds ≤ max_fraction_digits
      → IsSecondFraction (dot ∷ ds)

-- `T`, `t` or a space between date and time
abbrev pub IsSeparator : ℕ → Type 0
IsSeparator b = (b ≡ upper_t) ⊎ ((b ≡ lower_t) ⊎ (b ≡ space))

-- an hour and a minute of a day
abbrev pub IsClock : ℕ → ℕ → Type 0
IsClock hour minute = (hour < 24) × (minute < 60)

-- an hour and a minute, in seconds
abbrev pub clock_seconds : ℕ → ℕ → ℕ
clock_seconds hour minute = (hour * 60 + minute) * 60

-- an offset from UTC in seconds, and its text: `Z`, `z`, `+hh:mm`, `-hh:mm` or nothing, which is
-- UTC
pub data IsOffset : ℤ → List ℕ → Type 0 where
  no_offset : IsOffset (pos 0) []
  capital_z : IsOffset (pos 0) (upper_z ∷ [])
  small_z : IsOffset (pos 0) (lower_z ∷ [])
  ahead_of_utc :
      (hour minute : ℕ) → IsClock hour minute
      → IsOffset (pos (clock_seconds hour minute)) (plus ∷ clock_text hour minute)
  behind_utc :
      (hour minute : ℕ) → IsClock hour minute
      → IsOffset (neg_ℤ (pos (clock_seconds hour minute))) (minus ∷ clock_text hour minute)

-- the text is a date and a time of day, a number of seconds after 1970-01-01T00:00:00Z (or before
-- it): the seconds of the calendar's day and of the time, less the offset. A fraction of a second
-- is dropped
pub record SpellsInstant (text : List ℕ) (seconds : ℤ) : Type 0 where
  pub year : ℕ
  pub month : ℕ
  pub day : ℕ
  pub separator : ℕ
  pub hour : ℕ
  pub minute : ℕ
  pub second : ℕ
  pub fraction : List ℕ
  pub offset : ℤ
  pub offset_text : List ℕ
  pub is_text :
      text ≡ date_text year month day
      ++ (separator ∷ (time_text hour minute second ++ (fraction ++ offset_text)))
  pub is_year : year ≤ 9999
  pub is_date : IsCivilDate (pos year) month day
  pub is_separator : IsSeparator separator
  pub is_clock : IsClock hour minute
  pub is_second : second < 60
  pub is_fraction : IsSecondFraction fraction
  pub is_offset : IsOffset offset offset_text
  pub is_seconds :
      seconds
      ≡ (days_from_civil (pos year) month day *ℤ pos 86_400 +ℤ pos (clock_seconds hour minute + second))
      -ℤ offset

-- the text spells this instant and no other moment
abbrev pub SpellsOnlyInstant : List ℕ → ℕ → Type 0
SpellsOnlyInstant text instant =
    SpellsInstant text (pos instant) × ((seconds : ℤ) → SpellsInstant text seconds → seconds ≡ pos instant)

-- the result of reading a text: the instant is the one that the text spells; a text that spells
-- none breaks the form, and one before 1970 or after the year 9999 is out of range
abbrev pub IsInstantReading : List ℕ → Result ℕ InstantFault → Type 0
IsInstantReading text (Ok instant) = SpellsInstant text (pos instant) × (instant ≤ last_second)
IsInstantReading text (Err Form) = (seconds : ℤ) → SpellsInstant text seconds → ⊥
IsInstantReading text (Err Range) =
    (seconds : ℤ) × SpellsInstant text seconds × ((seconds <ℤ pos 0) ⊎ (pos last_second <ℤ seconds))
