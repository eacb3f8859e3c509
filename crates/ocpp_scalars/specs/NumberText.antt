-- The text of a number (RFC 8259, section 6).
use Rattle.std.specs.Prelude.{◌≡◌, ℕ, ◌≤◌, Bool, true, false, ◌⊎◌, List, [], ◌∷◌, ◌++◌, length, ℤ, pos, neg_ℤ, ◌-ℤ◌}
use Rattle.ocpp_scalars.specs.Ascii.{plus, minus, dot, digit_zero, upper_e, lower_e}
use Rattle.ocpp_scalars.specs.Digits.{AreDigits, decimal_value}

-- `1*DIGIT`
abbrev pub AreSomeDigits : List ℕ → Type 0
AreSomeDigits ds = (1 ≤ length ds) × AreDigits ds

-- `[ minus ]`: whether the number is negative, and the text
pub data IsMinus : Bool → List ℕ → Type 0 where
  no_minus : IsMinus false []
  minus_sign : IsMinus true (minus ∷ [])

-- `int = zero / ( digit1-9 *DIGIT )`
abbrev pub IsWhole : List ℕ → Type 0
IsWhole ds = AreSomeDigits ds × ((bs : List ℕ) → ds ≡ digit_zero ∷ bs → bs ≡ [])

-- `[ frac ]`, where `frac = decimal-point 1*DIGIT`: the digits, and the text
pub data IsFraction : List ℕ → List ℕ → Type 0 where
  no_fraction : IsFraction [] []
  decimal_point : (ds : List ℕ) → AreSomeDigits ds → IsFraction ds (dot ∷ ds)

-- `e = %x65 / %x45`
abbrev pub IsE : ℕ → Type 0
IsE e = (e ≡ lower_e) ⊎ (e ≡ upper_e)

-- `[ exp ]`, where `exp = e [ minus / plus ] 1*DIGIT`: the power of ten, and the text
pub data IsExponent : ℤ → List ℕ → Type 0 where
  no_exponent : IsExponent (pos 0) []
  unsigned_exponent :
      (e : ℕ) (ds : List ℕ) → IsE e → AreSomeDigits ds → IsExponent (pos (decimal_value ds)) (e ∷ ds)
  plus_exponent :
      (e : ℕ) (ds : List ℕ) → IsE e → AreSomeDigits ds
      → IsExponent (pos (decimal_value ds)) (e ∷ (plus ∷ ds))
  minus_exponent :
      (e : ℕ) (ds : List ℕ) → IsE e → AreSomeDigits ds
      → IsExponent (neg_ℤ (pos (decimal_value ds))) (e ∷ (minus ∷ ds))

-- `number = [ minus ] int [ frac ] [ exp ]`: a sign, the digits before and after the point as one
-- whole number, and the power of ten that scales it
pub record SpellsNumber (text : List ℕ) (negative : Bool) (digits : ℕ) (power : ℤ) : Type 0 where
  pub sign : List ℕ
  pub whole : List ℕ
  pub fraction : List ℕ
  pub fraction_digits : List ℕ
  pub exponent : List ℕ
  pub exponent_power : ℤ
  pub is_text : text ≡ sign ++ (whole ++ (fraction ++ exponent))
  pub is_minus : IsMinus negative sign
  pub is_whole : IsWhole whole
  pub is_fraction : IsFraction fraction_digits fraction
  pub is_exponent : IsExponent exponent_power exponent
  pub is_digits : digits ≡ decimal_value (whole ++ fraction_digits)
  pub is_power : power ≡ exponent_power -ℤ pos (length fraction_digits)

-- the text has the form of a number
abbrev pub IsNumber : List ℕ → Type 0
IsNumber text = (negative : Bool) × (digits : ℕ) × (power : ℤ) × SpellsNumber text negative digits power
