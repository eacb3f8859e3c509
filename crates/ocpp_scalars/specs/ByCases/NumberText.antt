-- A number's text split into its parts. By the law `number_texts` they are those of `NumberText`.
use Rattle.std.specs.Prelude.{ℕ, ◌+◌, ◌≤◌, length, Bool, true, false, not, ◌||◌, ◌==◌, if◌then◌else◌, List, [], ◌∷◌, Option, Some, None, is_some}
use Rattle.ocpp_scalars.specs.declared.number_text.NumberParts.{NumberParts}
use Rattle.ocpp_scalars.specs.Ascii.{plus, minus, dot, digit_zero, upper_e, lower_e}
use Rattle.ocpp_scalars.specs.ByCases.Digits.{digits_of, after_digits, is_empty}
use Rattle.ocpp_scalars.specs.Digits.{AreDigits}
use Rattle.ocpp_scalars.specs.OptionSteps.{◌>>=◌}

-- whether there is a minus, the digits of the whole part and of the fraction, whether the exponent
-- has a minus, and its digits
pub record Parts : Type 0 where
  pub negative : Bool
  pub whole : List ℕ
  pub fraction : List ℕ
  pub negative_exponent : Bool
  pub exponent : List ℕ

-- the parts of the code's struct
abbrev pub parts_seen : NumberParts → Parts
parts_seen p =
    record {
      negative = p.negative;
      whole = p.whole.now;
      fraction = p.fraction.now;
      negative_exponent = p.negative_exponent;
      exponent = p.exponent.now;
    }

-- each part consists of digits, at most `size` of them
pub record FitIn (size : ℕ) (p : Parts) : Type 0 where
  pub whole_digits : AreDigits p.whole
  pub fraction_digits : AreDigits p.fraction
  pub exponent_digits : AreDigits p.exponent
  pub lengths : length p.whole + length p.fraction + length p.exponent ≤ size

-- a sign, and the rest of the text
abbrev pub sign_at : List ℕ → Bool × List ℕ
sign_at [] = (false, [])
sign_at (b ∷ bs) = if b == minus then (true, bs) else (false, b ∷ bs)

-- digits without leading zeros
abbrev pub is_whole : List ℕ → Bool
is_whole [] = false
is_whole (b ∷ bs) = not (b == digit_zero) || is_empty bs

-- the digits of the whole part, and the rest of the text
abbrev pub whole_at : List ℕ → Option (List ℕ × List ℕ)
whole_at text = if is_whole (digits_of text) then Some (digits_of text, after_digits text) else None

-- at least one digit, and the rest of the text
abbrev pub digits_at : List ℕ → Option (List ℕ × List ℕ)
digits_at text = if is_empty (digits_of text) then None else Some (digits_of text, after_digits text)

-- the digits of the fraction, none without a point, and the rest of the text
abbrev pub fraction_at : List ℕ → Option (List ℕ × List ℕ)
fraction_at [] = Some ([], [])
fraction_at (b ∷ bs) = if b == dot then digits_at bs else Some ([], b ∷ bs)

-- an exponent's sign, and the rest of the text
abbrev pub exponent_sign_at : List ℕ → Bool × List ℕ
exponent_sign_at [] = (false, [])
exponent_sign_at (b ∷ bs) =
    if b == minus then (true, bs)
    else if b == plus then (false, bs)
    else (false, b ∷ bs)

-- the digits to the end of the text, after an exponent's sign
abbrev pub exponent_digits : Bool × List ℕ → Option (Bool × List ℕ)
exponent_digits (negative, text) = do
  (digits, rest) ← digits_at text
  if is_empty rest then Some (negative, digits) else None

-- an exponent that ends the text: whether it has a minus, and its digits, none without an exponent
abbrev pub exponent_in : List ℕ → Option (Bool × List ℕ)
exponent_in [] = Some (false, [])
exponent_in (b ∷ bs) =
    if (b == lower_e) || (b == upper_e) then exponent_digits (exponent_sign_at bs)
    else None

-- the parts of a whole text
unfoldable pub parts_of : List ℕ → Option Parts
parts_of text = do
  (whole, after_whole) ← whole_at (sign_at text).1
  (fraction, after_fraction) ← fraction_at after_whole
  (negative_exponent, exponent) ← exponent_in after_fraction
  Some (record {
    negative = (sign_at text).0;
    whole = whole;
    fraction = fraction;
    negative_exponent = negative_exponent;
    exponent = exponent;
  })

-- the test for a number's text
unfoldable pub is_number_text : List ℕ → Bool
is_number_text text = is_some (parts_of text)
