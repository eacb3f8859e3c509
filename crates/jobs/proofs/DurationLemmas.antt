-- Texts that begin with a number.
use Rattle.std.proofs.Common.{◌≡◌, ℕ, ◌+◌, ◌-◌, ◌*◌, ◌<◌, List, length, get_or, drop, refl, add-one, drop-cons, nat_le, Some, None, true, false}
use Rattle.std.specs.Char.{is_ascii_digit}
use Rattle.meaning.specs.Limits.{max_duration}
use Rattle.jobs.specs.Duration.{number_after}

pub number_after-step : (n : ℕ) (bs : List ℕ) (i : ℕ) → i < length bs → is_ascii_digit (get_or bs i 0) ≡ true
    → nat_le (n * 10 + (get_or bs i 0 - 48)) max_duration ≡ true
    → number_after n (drop i bs) ≡ number_after (n * 10 + (get_or bs i 0 - 48)) (drop (i + 1) bs)
number_after-step n bs i h digit fits = rw (drop-cons bs i 0, add-one) (rw (digit, fits) refl)

pub number_after-over : (n : ℕ) (bs : List ℕ) (i : ℕ) → i < length bs → is_ascii_digit (get_or bs i 0) ≡ true
    → nat_le (n * 10 + (get_or bs i 0 - 48)) max_duration ≡ false
    → number_after n (drop i bs) ≡ None
number_after-over n bs i h digit over = rw (drop-cons bs i 0) (rw (digit, over) refl)

pub number_after-end : (n : ℕ) (bs : List ℕ) (i : ℕ) → i < length bs → is_ascii_digit (get_or bs i 0) ≡ false
    → number_after n (drop i bs) ≡ Some (n, drop i bs)
number_after-end n bs i h digit = rw (drop-cons bs i 0) (rw digit refl)
