-- The number that a word is, from its digits. By the law of the function `number_of` it is the
-- number of `IsDecimalOf`.
use Rattle.std.specs.Prelude.{ℕ, ◌&&◌, Bool, nat_lt, nat_le, if◌then◌else◌, List, slice_index, Option, Some, None}
use Rattle.std.specs.Fmt.{decimal}
use Rattle.std.specs.Str.{bytes_eq}
use Rattle.std.specs.Str.Parse.{digits_value}
use Rattle.ocpp_scalars.specs.Ascii.{digit_zero}
use Rattle.site_core.specs.Limits.{max_number}

-- whether a word is the decimal text of a number, and that is from 1 to the highest
abbrev pub is_number : List ℕ → ℕ → Bool
is_number word n = bytes_eq word (decimal n) && (nat_lt 0 n && nat_le n max_number)

-- the digits above 0 are above this byte, and a plus is below it
abbrev pub begins_above_zero : List ℕ → Bool
begins_above_zero word = nat_lt digit_zero (slice_index word 0)

-- the number that a word is
unfoldable pub number_of : List ℕ → Option ℕ
number_of word = if is_number word (digits_value 10 word) then Some (digits_value 10 word) else None
