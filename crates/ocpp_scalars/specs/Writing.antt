-- The printed texts of instants and of tenths, by definitions that no reader uses. By the laws
-- `instant_texts` and `number_texts` each spells only its own value.
use Rattle.std.specs.Prelude.{ℕ, zero, suc, ◌+◌, ◌/◌, ◌%◌, List, [], ◌∷◌, ◌++◌, codes, decimal}
use Rattle.ocpp_scalars.specs.CalendarDay.{CalendarDay, calendar_day}

-- a number in a given count of decimal digits, with leading zeros (48 is `0`)
abbrev pub in_digits : ℕ → ℕ → List ℕ
in_digits zero number = []
in_digits (suc count) number = in_digits count (number / 10) ++ (48 + number % 10) ∷ []

-- `YYYY-MM-DD`
unfoldable pub day_text : CalendarDay → List ℕ
day_text d =
    in_digits 4 d.year ++ codes "-" ++ in_digits 2 d.month ++ codes "-" ++ in_digits 2 d.day

-- `hh:mm:ss` a number of seconds after midnight
unfoldable pub time_of_day_text : ℕ → List ℕ
time_of_day_text seconds =
    in_digits 2 (seconds / 3600) ++ codes ":"
    ++ in_digits 2 (seconds / 60 % 60) ++ codes ":"
    ++ in_digits 2 (seconds % 60)

-- an instant as it is printed: `YYYY-MM-DDThh:mm:ssZ`, of the seconds since 1970-01-01T00:00:00Z
unfoldable pub instant_text : ℕ → List ℕ
instant_text instant =
    day_text (calendar_day (instant / 86_400))
    ++ codes "T" ++ time_of_day_text (instant % 86_400) ++ codes "Z"

-- tenths as they are printed: the whole part without leading zeros, a point and one digit
unfoldable pub tenths_text : ℕ → List ℕ
tenths_text tenths = decimal (tenths / 10) ++ (codes "." ++ decimal (tenths % 10))
