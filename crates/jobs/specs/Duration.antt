-- The seconds of a duration, by the text of an option: a whole number of seconds, or one with a
-- unit, or days, hours, minutes and seconds as ISO 8601-1 writes them (section 5.5.2.2).
use Rattle.std.specs.Prelude.{ℕ, ◌+◌, ◌-◌, ◌*◌, ◌==◌, ◌||◌, ◌&&◌, not, nat_le, if◌then◌else◌, List, [], ◌∷◌, Option, Some, None, option_map}
use Rattle.std.specs.Char.{is_ascii_digit}
use Rattle.meaning.specs.Limits.{max_duration}
use Rattle.ocpp_scalars.specs.Ascii.{digit_zero, plus, upper_t}
use Rattle.ocpp_scalars.specs.ByCases.Digits.{is_empty}
use Rattle.ocpp_scalars.specs.OptionSteps.{◌>>=◌}

-- the number that these digits make after those of this value, and the text after them
abbrev pub number_after : ℕ → List ℕ → Option (ℕ × List ℕ)
number_after number [] = Some (number, [])
number_after number (b ∷ bs) =
    if is_ascii_digit b then
    (if nat_le (number * 10 + (b - digit_zero)) max_duration
    then number_after (number * 10 + (b - digit_zero)) bs else None)
    else Some (number, b ∷ bs)

-- the number at the beginning of a text, up to the longest duration, and the text after its digits
abbrev pub number_at : List ℕ → Option (ℕ × List ℕ)
number_at [] = None
number_at (b ∷ bs) = if is_ascii_digit b then number_after 0 (b ∷ bs) else None

-- the seconds of a unit: `s`, `m`, `h` or `d`
abbrev pub unit_letter : ℕ → Option ℕ
unit_letter b =
    if b == 115 then Some 1
    else if b == 109 then Some 60
    else if b == 104 then Some 3_600
    else if b == 100 then Some 86_400
    else None

-- the same; the empty unit is the second
abbrev pub unit_of : List ℕ → Option ℕ
unit_of [] = Some 1
unit_of (b ∷ []) = unit_letter b
unit_of (b ∷ c ∷ bs) = None

-- the seconds of a whole number and its unit
abbrev pub counted : List ℕ → Option ℕ
counted text = do
  (number, unit) ← number_at text
  seconds ← unit_of unit
  Some (number * seconds)

-- the seconds of a number with its unit, and the text after it; or 0 and the whole text
abbrev pub part_of : ℕ → ℕ → List ℕ → Option (ℕ × List ℕ) → ℕ × List ℕ
part_of unit seconds text None = (0, text)
part_of unit seconds text (Some (number, [])) = (0, text)
part_of unit seconds text (Some (number, b ∷ bs)) = if b == unit then (number * seconds, bs) else (0, text)

abbrev pub part_at : ℕ → ℕ → List ℕ → ℕ × List ℕ
part_at unit seconds text = part_of unit seconds text (number_at text)

-- `hH`, `mM` and `sS`, at least one of them
abbrev pub time_of_day : List ℕ → Option ℕ
time_of_day text =
    let hours = part_at 72 3_600 text in
    let minutes = part_at 77 60 hours.1 in
    let seconds = part_at 83 1 minutes.1 in
    if is_empty text || not (is_empty seconds.1) then None
    else Some (hours.0 + minutes.0 + seconds.0)

-- `dD`, and `T` with a time of day
abbrev pub with_time : ℕ → List ℕ → Option ℕ
with_time days [] = Some days
with_time days (b ∷ bs) =
    if b == upper_t then option_map (λ time. days + time) (time_of_day bs) else None

abbrev pub period : List ℕ → Option ℕ
period text = with_time (part_at 68 86_400 text).0 (part_at 68 86_400 text).1

abbrev pub in_range : ℕ → Option ℕ
in_range seconds = if nat_le 1 seconds && nat_le seconds max_duration then Some seconds else None

-- by the first byte: `P` for ISO 8601; a number may begin with a plus
abbrev pub seconds_of : List ℕ → Option ℕ
seconds_of [] = None
seconds_of (b ∷ bs) =
    if b == 80 then period bs
    else if b == plus then counted bs
    else counted (b ∷ bs)

unfoldable pub duration_of : List ℕ → Option ℕ
duration_of text = do
  seconds ← seconds_of text
  in_range seconds
