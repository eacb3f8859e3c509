-- Printed tenths spell their own value and no other, and are read back as it.
use Rattle.std.proofs.Common.{◌≡◌, ℕ, ◌+◌, ◌/◌, ◌%◌, ◌≤◌, ◌<◌, false, List, [], ◌∷◌, ◌++◌, length, ◌^◌, inl, inr, pos, negsuc, ◌-ℤ◌, decimal, Ok, append-nil, eq-zero-or-pos, sym, ap, ◌∙◌, arith, length-append}
use Rattle.std.proofs.lemmas.Fmt.{decimal_by_steps_wide, decimal_digit, length-decimal-le}
use Rattle.ocpp_scalars.specs.Digits.{AreDigits, value_after, decimal_value}
use Rattle.ocpp_scalars.specs.Limits.{max_number_bytes, max_tenths}
use Rattle.ocpp_scalars.specs.Number.{SpellsTenths, SpellsOnlyTenths}
use Rattle.ocpp_scalars.specs.NumberText.{IsWhole, no_minus, decimal_point, no_exponent, SpellsNumber}
use Rattle.ocpp_scalars.specs.ByCases.Number.{tenths_of}
use Rattle.ocpp_scalars.specs.Writing.{tenths_text}
use Rattle.ocpp_scalars.proofs.NumberGrammar.{value_after-append}
use Rattle.ocpp_scalars.proofs.NumberReadings.{tenths_of_spelling, tenths_alone}

record Writes (n : ℕ) (ds : List ℕ) : Type 0 where
  are_digits : AreDigits ds
  value : decimal_value ds ≡ n
  some : 1 ≤ length ds
  no_zero : 0 < n → (bs : List ℕ) → ds ≡ 48 ∷ bs → ⊥

AreDigits-append : (xs ys : List ℕ) → AreDigits xs → AreDigits ys → AreDigits (xs ++ ys)
AreDigits-append [] ys a b = b
AreDigits-append (x ∷ xs) ys a b = (a.0, AreDigits-append xs ys a.1 b)

one_digit : (n : ℕ) → n < 10 → Writes n ((48 + n) ∷ [])
one_digit n h = record {
  are_digits = ((omega arith, omega arith), tt);
  value = omega arith;
  some = omega arith;
  no_zero = λ more bs same. let zero_first : 48 + n ≡ 48 = cc in absurd (omega arith);
}

keeps_first : (n : ℕ) (ds : List ℕ) (last : ℕ) → Writes n ds → 0 < n → (bs : List ℕ) → ds ++ (last ∷ []) ≡ 48 ∷ bs → ⊥
keeps_first n [] last w more bs same = absurd (omega (arith, w.some))
keeps_first n (d ∷ ds) last w more bs same =
    let zero_first : d ≡ 48 = cc in
    w.no_zero more ds (ap (λ c. c ∷ ds) zero_first)

more_digits : (n : ℕ) (ds : List ℕ) → 10 ≤ n → Writes (n / 10) ds → Writes n (ds ++ ((48 + n % 10) ∷ []))
more_digits n ds h w = record {
  are_digits = AreDigits-append ds ((48 + n % 10) ∷ []) w.are_digits ((omega arith, omega arith), tt);
  value = value_after-append 0 ds ((48 + n % 10) ∷ []) ∙ omega (arith, w.value);
  some = omega (arith, length-append ds ((48 + n % 10) ∷ []));
  no_zero = λ more. keeps_first (n / 10) ds (48 + n % 10) w (omega arith);
}

decimal-writes : (n : ℕ) → n < 10 ^ 64 → Writes n (decimal n)
decimal-writes n h = decimal_by_steps_wide Writes one_digit more_digits n h

-- only zero begins with a zero
whole_part : (n : ℕ) → n < 10 ^ 64 → IsWhole (decimal n)
whole_part n h =
    let w = decimal-writes n h in (
      (w.some, w.are_digits),
      λ bs same. elim (eq-zero-or-pos n) [
        | inl none ↦
            let alone : 48 ∷ [] ≡ 48 ∷ bs = sym (ap decimal none ∙ decimal_digit 0 (omega arith)) ∙ same in
            cc
        | inr more ↦ absurd (w.no_zero more bs same)
      ],
    )

spelled : (tenths : ℕ) → tenths < 10 ^ 64 → SpellsNumber (tenths_text tenths) false tenths (negsuc 0)
unfolding tenths_text
spelled tenths h =
    let whole = decimal (tenths / 10) in
    let tenth = decimal (tenths % 10) in
    let w = decimal-writes (tenths / 10) (omega arith) in
    let single : tenth ≡ (48 + tenths % 10) ∷ [] = decimal_digit (tenths % 10) (omega arith) in
    let last = decimal-writes (tenths % 10) (omega arith) in
    let one : length tenth ≡ 1 = ap length single in
    let value : decimal_value (whole ++ tenth) ≡ tenths =
    value_after-append 0 whole tenth ∙ ap (λ n. value_after n tenth) w.value ∙ ap (λ ds. value_after (tenths / 10) ds) single ∙ omega arith in
    record {
      sign = [];
      whole = whole;
      fraction = 46 ∷ tenth;
      fraction_digits = tenth;
      exponent = [];
      exponent_power = pos 0;
      is_text = ap (λ r. whole ++ r) (sym (append-nil (46 ∷ tenth)));
      is_minus = no_minus;
      is_whole = whole_part (tenths / 10) (omega arith);
      is_fraction = decimal_point tenth (last.some, last.are_digits);
      is_exponent = no_exponent;
      is_digits = sym value;
      is_power = sym (ap (λ n. pos 0 -ℤ pos n) one);
    }

short : (tenths : ℕ) → tenths ≤ max_tenths → length (tenths_text tenths) ≤ max_number_bytes
unfolding tenths_text
short tenths h =
    let whole = decimal (tenths / 10) in
    let tenth = decimal (tenths % 10) in
    let long : length whole ≤ 9 = length-decimal-le 9 (tenths / 10) (omega arith) (omega arith) (omega arith) in
    let one : length tenth ≤ 1 = length-decimal-le 1 (tenths % 10) (omega arith) (omega arith) (omega arith) in
    omega (arith, length-append whole (46 ∷ tenth))

pub tenths_printed : (tenths : ℕ) → tenths < 10 ^ 64 → SpellsOnlyTenths (tenths_text tenths) tenths
tenths_printed tenths h =
    let spells : SpellsTenths (tenths_text tenths) tenths = (false, tenths, negsuc 0, spelled tenths h, omega arith, λ e. cc) in
    (spells, λ others again. tenths_alone (tenths_text tenths) tenths others spells again)

pub tenths_again : (tenths : ℕ) → tenths ≤ max_tenths → tenths_of (tenths_text tenths) ≡ Ok tenths
tenths_again tenths h =
    tenths_of_spelling (tenths_text tenths) false tenths (negsuc 0) tenths (short tenths h) (spelled tenths (omega arith)) (omega arith) (λ e. cc) h
