-- Decimal digits in ASCII (DIGIT of RFC 5234, appendix B.1), and the numbers that they spell.
use Rattle.std.specs.Prelude.{ℕ, ◌+◌, ◌-◌, ◌*◌, ◌/◌, ◌%◌, ◌≤◌, ◌++◌, List, [], ◌∷◌}
use Rattle.ocpp_scalars.specs.Ascii.{digit_zero, digit_nine}

-- the byte is one of `0` to `9`
abbrev pub IsDigit : ℕ → Type 0
IsDigit b = (digit_zero ≤ b) × (b ≤ digit_nine)

-- each byte is a digit
abbrev pub AreDigits : List ℕ → Type 0
AreDigits [] = Unit {0}
AreDigits (b ∷ bs) = IsDigit b × AreDigits bs

-- the value of digits that follow digits of a given value: each digit multiplies the value before
-- it by ten
abbrev pub value_after : ℕ → List ℕ → ℕ
value_after n [] = n
value_after n (b ∷ bs) = value_after (n * 10 + (b - digit_zero)) bs

-- the number that digits spell in decimal
abbrev pub decimal_value : List ℕ → ℕ
decimal_value bs = value_after 0 bs

-- a number below 100 in two digits
abbrev pub two_digits : ℕ → List ℕ
two_digits n = (digit_zero + n / 10) ∷ (digit_zero + n % 10) ∷ []

-- a number below 10,000 in four digits
abbrev pub four_digits : ℕ → List ℕ
four_digits n = two_digits (n / 100) ++ two_digits (n % 100)
