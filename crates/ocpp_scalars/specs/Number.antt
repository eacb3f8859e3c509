-- The value of a number's text, in tenths and as a whole number, and the result of reading it.
use Rattle.std.specs.Prelude.{◌≡◌, ℕ, suc, ◌*◌, ◌^◌, ◌≤◌, ◌<◌, Bool, true, false, List, length, ℤ, pos, negsuc, neg_ℤ, ◌≤ℤ◌, Result, Ok, Err}
use Rattle.ocpp_scalars.specs.declared.number.NumberFault.{NumberFault}
use Rattle.ocpp_scalars.specs.declared.number.NumberFault.TheVariants.{Form, TooLong, Range}
use Rattle.ocpp_scalars.specs.Limits.{max_number_bytes, max_tenths, max_whole, max_negative_whole}
use Rattle.ocpp_scalars.specs.NumberText.{SpellsNumber, IsNumber}

-- n is m times the power of ten; for a negative power, n times its inverse is m
abbrev pub IsScaled : ℕ → ℤ → ℕ → Type 0
IsScaled m (pos power) n = n ≡ m * 10 ^ power
IsScaled m (negsuc power) n = n * 10 ^ suc power ≡ m

-- ten times the number that the text spells is `tenths`, and only zero has a minus
abbrev pub SpellsTenths : List ℕ → ℕ → Type 0
SpellsTenths text tenths =
    (negative : Bool) × (digits : ℕ) × (power : ℤ) × SpellsNumber text negative digits power
    × IsScaled (10 * digits) power tenths × (negative ≡ true → tenths ≡ 0)

-- the text spells these tenths and no others
abbrev pub SpellsOnlyTenths : List ℕ → ℕ → Type 0
SpellsOnlyTenths text tenths =
    SpellsTenths text tenths × ((others : ℕ) → SpellsTenths text others → others ≡ tenths)

-- the number with its sign
abbrev pub with_sign : Bool → ℕ → ℤ
with_sign true n = neg_ℤ (pos n)
with_sign false n = pos n

-- the number that the text spells is whole
abbrev pub SpellsWhole : List ℕ → ℤ → Type 0
SpellsWhole text whole =
    (negative : Bool) × (digits : ℕ) × (power : ℤ) × (size : ℕ) × SpellsNumber text negative digits power
    × IsScaled digits power size × (whole ≡ with_sign negative size)

abbrev pub IsShort : List ℕ → Type 0
IsShort text = length text ≤ max_number_bytes

-- the text spells these tenths, and they are at most the maximum
abbrev pub IsTenths : List ℕ → ℕ → Type 0
IsTenths text tenths = SpellsTenths text tenths × (tenths ≤ max_tenths)

-- the tenths are those that the text spells; a long text is too long, another that isn't a number
-- breaks the form, and any other value that isn't a whole number of tenths in range is out of range
abbrev pub IsTenthsReading : List ℕ → Result ℕ NumberFault → Type 0
IsTenthsReading text (Ok tenths) = IsShort text × IsTenths text tenths
IsTenthsReading text (Err TooLong) = max_number_bytes < length text
IsTenthsReading text (Err Form) = IsShort text × (IsNumber text → ⊥)
IsTenthsReading text (Err Range) = IsShort text × IsNumber text × ((tenths : ℕ) → IsTenths text tenths → ⊥)

-- the text spells this whole number of 32 bits
abbrev pub IsWholeNumber : List ℕ → ℤ → Type 0
IsWholeNumber text whole =
    SpellsWhole text whole × (neg_ℤ (pos max_negative_whole) ≤ℤ whole) × (whole ≤ℤ pos max_whole)

-- the same for a whole number of 32 bits
abbrev pub IsWholeReading : List ℕ → Result ℤ NumberFault → Type 0
IsWholeReading text (Ok whole) = IsShort text × IsWholeNumber text whole
IsWholeReading text (Err TooLong) = max_number_bytes < length text
IsWholeReading text (Err Form) = IsShort text × (IsNumber text → ⊥)
IsWholeReading text (Err Range) = IsShort text × IsNumber text × ((whole : ℤ) → IsWholeNumber text whole → ⊥)
