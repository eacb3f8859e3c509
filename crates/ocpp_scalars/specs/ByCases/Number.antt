-- The reading of a number's text in tenths and as a whole number: its value or the fault. By the
-- law `number_texts` it is the reading of `Number`.
use Rattle.std.specs.Prelude.{ℕ, suc, ◌*◌, ◌/◌, ◌%◌, ◌^◌, Bool, true, false, ◌==◌, nat_le, nat_lt, if◌then◌else◌, List, length, ℤ, pos, negsuc, ◌+ℤ◌, ◌-ℤ◌, Option, Some, None, option_map, ok_or, Result, Ok, Err}
use Rattle.ocpp_scalars.specs.declared.number.NumberFault.{NumberFault}
use Rattle.ocpp_scalars.specs.declared.number.NumberFault.TheVariants.{Form, TooLong, Range}
use Rattle.ocpp_scalars.specs.declared.number.Number.{Number}
use Rattle.ocpp_scalars.specs.Digits.{decimal_value, value_after}
use Rattle.ocpp_scalars.specs.Limits.{max_number_bytes, max_tenths, max_whole, max_negative_whole}
use Rattle.ocpp_scalars.specs.ByCases.NumberText.{Parts, parts_of}
use Rattle.ocpp_scalars.specs.Number.{with_sign}

-- the number of given parts: digits, and the power of ten that scales them
abbrev pub number_of_parts : Parts → Number
number_of_parts p =
    record {
      negative = p.negative;
      digits = value_after (decimal_value p.whole) p.fraction;
      power = with_sign p.negative_exponent (decimal_value p.exponent) -ℤ pos (length p.fraction);
    }

-- the digits times the power of ten, if that is whole
unfoldable pub times_power : ℕ → ℤ → Option ℕ
times_power digits (pos power) = Some (digits * 10 ^ power)
times_power digits (negsuc power) =
    if digits % 10 ^ suc power == 0 then Some (digits / 10 ^ suc power) else None

-- the number, if it is at most the bound
abbrev pub at_most : ℕ → Option ℕ → Option ℕ
at_most most None = None
at_most most (Some n) = if nat_le n most then Some n else None

-- the number of a text of at most a given number of bytes
unfoldable pub number_in : List ℕ → Result Number NumberFault
number_in text =
    if nat_lt max_number_bytes (length text) then Err TooLong
    else ok_or (option_map number_of_parts (parts_of text)) Form

-- no tenths below zero
abbrev pub most_tenths : Bool → ℕ
most_tenths true = 0
most_tenths false = max_tenths

abbrev pub tenths_of_number : Result Number NumberFault → Result ℕ NumberFault
tenths_of_number (Ok n) =
    ok_or (at_most (most_tenths n.negative) (times_power n.digits (n.power +ℤ pos 1))) Range
tenths_of_number (Err e) = Err e

-- the reading of a text as tenths, from 0 to 1,000,000,000
unfoldable pub tenths_of : List ℕ → Result ℕ NumberFault
tenths_of text = tenths_of_number (number_in text)

-- with 32 bits, two's complement has one number more below zero
abbrev pub most_whole : Bool → ℕ
most_whole true = max_negative_whole
most_whole false = max_whole

abbrev pub whole_of_number : Result Number NumberFault → Result ℤ NumberFault
whole_of_number (Ok n) =
    ok_or
    (option_map (with_sign n.negative) (at_most (most_whole n.negative) (times_power n.digits n.power)))
    Range
whole_of_number (Err e) = Err e

-- the whole number that a text is worth, from -2,147,483,648 to 2,147,483,647
unfoldable pub whole_of : List ℕ → Result ℤ NumberFault
whole_of text = whole_of_number (number_in text)
