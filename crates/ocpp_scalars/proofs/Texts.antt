-- Texts that begin with digits.
use Rattle.std.proofs.Common.{◌≡◌, ℕ, ◌+◌, ◌-◌, ◌*◌, ◌<◌, List, [], ◌∷◌, length, get_or, drop, refl, arith, add-one, drop-cons, true, false}
use Rattle.std.specs.Char.{is_ascii_digit}
use Rattle.ocpp_scalars.specs.Digits.{IsDigit, AreDigits, value_after}
use Rattle.ocpp_scalars.specs.ByCases.Digits.{digits_of, after_digits}

pub AreDigits-digits_of : (bs : List ℕ) → AreDigits (digits_of bs)
AreDigits-digits_of [] = tt
AreDigits-digits_of (b ∷ bs) = grind (arith, AreDigits-digits_of bs)

pub digits_of-step : (bs : List ℕ) (i : ℕ) → i < length bs → is_ascii_digit (get_or bs i 0) ≡ true → digits_of (drop i bs) ≡ get_or bs i 0 ∷ digits_of (drop (i + 1) bs)
digits_of-step bs i h digit = rw (drop-cons bs i 0, add-one) (rw digit refl)

pub after_digits-step : (bs : List ℕ) (i : ℕ) → i < length bs → is_ascii_digit (get_or bs i 0) ≡ true → after_digits (drop i bs) ≡ after_digits (drop (i + 1) bs)
after_digits-step bs i h digit = rw (drop-cons bs i 0, add-one) (rw digit refl)

pub digits_of-end : (bs : List ℕ) (i : ℕ) → i < length bs → is_ascii_digit (get_or bs i 0) ≡ false → digits_of (drop i bs) ≡ []
digits_of-end bs i h digit = rw (drop-cons bs i 0) (rw digit refl)

pub after_digits-end : (bs : List ℕ) (i : ℕ) → i < length bs → is_ascii_digit (get_or bs i 0) ≡ false → after_digits (drop i bs) ≡ drop i bs
after_digits-end bs i h digit = rw (drop-cons bs i 0) (rw digit refl)

-- the next of the remaining digits
pub AreDigits-next : (ds : List ℕ) (i : ℕ) → i < length ds → AreDigits (drop i ds) → IsDigit (get_or ds i 0) × AreDigits (drop (i + 1) ds)
AreDigits-next ds i h digits = rw add-one (rw (drop-cons ds i 0) at digits)

pub value_after-next : (value : ℕ) (ds : List ℕ) (i : ℕ) → i < length ds → value_after value (drop i ds) ≡ value_after (value * 10 + (get_or ds i 0 - 48)) (drop (i + 1) ds)
value_after-next value ds i h = rw (drop-cons ds i 0, add-one) refl

pub ruleset digit_steps = (AreDigits-digits_of, digits_of-step, after_digits-step, digits_of-end, after_digits-end)
