-- Numbers are read exactly as their grammar says.
use Rattle.std.proofs.Common.{◌≡◌, ℕ, zero, suc, ◌*◌, ◌/◌, ◌%◌, ◌^◌, ◌≤◌, ◌<◌, ◌↔◌, ◌==◌, nat_lt, nat_le, Bool, true, false, is_some, List, length, ℤ, pos, negsuc, neg_ℤ, ◌+ℤ◌, ◌≤ℤ◌, Option, Some, None, option_map, ok_or, Result, Ok, Err, refl, sym, ap, subst, ◌∙◌, arith, ltb-true, ltb-false, le-ltb, leb-true, le-leb, div-add-mod', add-one}
use Rattle.std.proofs.lemmas.Int.{ints}
use Rattle.std.proofs.lemmas.Bool.{eqb-true}
use Rattle.std.proofs.lemmas.Grind.{pow_more}
use Rattle.ocpp_scalars.specs.declared.number.NumberFault.{NumberFault}
use Rattle.ocpp_scalars.specs.declared.number.NumberFault.TheVariants.{Form, TooLong, Range}
use Rattle.ocpp_scalars.specs.declared.number.Number.{Number}
use Rattle.ocpp_scalars.specs.ByCases.NumberText.{Parts, parts_of, is_number_text}
use Rattle.ocpp_scalars.specs.Limits.{max_number_bytes, max_tenths, max_whole, max_negative_whole}
use Rattle.ocpp_scalars.specs.NumberText.{SpellsNumber, IsNumber}
use Rattle.ocpp_scalars.specs.Number.{IsScaled, SpellsTenths, with_sign, IsShort, IsTenthsReading, IsWholeReading}
use Rattle.ocpp_scalars.specs.ByCases.Number.{number_of_parts, times_power, at_most, number_in, most_tenths, tenths_of_number, tenths_of, most_whole, whole_of_number, whole_of}
use Rattle.ocpp_scalars.proofs.Cases.{by_test, same-some, test-some}
use Rattle.ocpp_scalars.proofs.NumberGrammar.{parts_found, parts_only}
use Rattle.ocpp_scalars.proofs.Scaling.{scaled-lowered}

-- digits times a power of ten

scaled-found : (m : ℕ) (power : ℤ) (n : ℕ) → times_power m power ≡ Some n → IsScaled m power n
unfolding times_power
scaled-found m (pos k) n e = let same : m * 10 ^ k ≡ n = cc in sym same
scaled-found m (negsuc k) n e =
    let t = test-some (m % 10 ^ suc k == 0) (m / 10 ^ suc k) n e in
    rw (← t.1) (omega (arith, div-add-mod' m (10 ^ suc k), eqb-true (m % 10 ^ suc k) 0 t.0))

scaled-only : (m : ℕ) (power : ℤ) (n : ℕ) → IsScaled m power n → times_power m power ≡ Some n
unfolding times_power
scaled-only m (pos k) n is = ap Some (sym is)
scaled-only m (negsuc k) n is = scaled-lowered m (suc k) n (omega arith) is

pow_next : (k : ℕ) → 10 ^ suc k ≡ 10 ^ k * 10
pow_next k = rw add-one at (pow_more 10 k)

below_one : (k : ℕ) → negsuc (suc k) +ℤ pos 1 ≡ negsuc k
below_one k = omega (arith, ints)

tenths-up : (m : ℕ) (power : ℤ) (n : ℕ) → IsScaled m (power +ℤ pos 1) n → IsScaled (10 * m) power n
tenths-up m (pos k) n is = omega (arith, is, ap (λ p. m * p) (pow_more 10 k))
tenths-up m (negsuc zero) n is = omega arith
tenths-up m (negsuc (suc k)) n is =
    let here : n * 10 ^ suc k ≡ m = subst (λ power. IsScaled m power n) (below_one k) is in
    omega (arith, here, ap (λ p. n * p) (pow_next (suc k)))

tenths-down : (m : ℕ) (power : ℤ) (n : ℕ) → IsScaled (10 * m) power n → IsScaled m (power +ℤ pos 1) n
tenths-down m (pos k) n is = omega (arith, is, ap (λ p. m * p) (pow_more 10 k))
tenths-down m (negsuc zero) n is = omega arith
tenths-down m (negsuc (suc k)) n is =
    let here : n * 10 ^ suc k ≡ m = omega (arith, is, ap (λ p. n * p) (pow_next (suc k))) in
    subst (λ power. IsScaled m power n) (sym (below_one k)) here

at_most-found : (most : ℕ) (o : Option ℕ) (n : ℕ) → at_most most o ≡ Some n → (o ≡ Some n) × (n ≤ most)
at_most-found most None n e = cc
at_most-found most (Some m) n e =
    let t = test-some (nat_le m most) m n e in
    (ap Some t.1, rw (← t.1) (leb-true m most t.0))

at_most-only : (most n : ℕ) → n ≤ most → at_most most (Some n) ≡ Some n
at_most-only most n h = rw (le-leb n most h) refl

-- the number of a text

some-is_some : {T : Type 0} → (o : Option T) → is_some o ≡ true → (x : T) × (o ≡ Some x)
some-is_some None e = cc
some-is_some (Some x) e = (x, refl)

pub number_text-found : (text : List ℕ) → is_number_text text ≡ true → IsNumber text
unfolding is_number_text
number_text-found text e =
    let (p, is) = some-is_some (parts_of text) e in
    (p.negative, (number_of_parts p).digits, (number_of_parts p).power, parts_found text p is)

pub number_text-only : (text : List ℕ) → IsNumber text → is_number_text text ≡ true
unfolding is_number_text
number_text-only text (negative, digits, power, spells) =
    let h = parts_only text negative digits power spells in
    rw h.1 refl

-- the reading of a text that is short enough, before its bounds are checked
NumberFacts : List ℕ → Result Number NumberFault → Type 0
NumberFacts text (Ok n) = IsShort text × SpellsNumber text n.negative n.digits n.power
NumberFacts text (Err TooLong) = max_number_bytes < length text
NumberFacts text (Err Form) = IsShort text × (IsNumber text → ⊥)
NumberFacts text (Err Range) = ⊥

number_of_option : (text : List ℕ) → IsShort text → (o : Option Parts) → parts_of text ≡ o → NumberFacts text (ok_or (option_map number_of_parts o) Form)
unfolding NumberFacts
number_of_option text short None e =
    (short, λ (negative, digits, power, spells). let h = parts_only text negative digits power spells in cc)
number_of_option text short (Some p) e = (short, parts_found text p e)

number_in-found : (text : List ℕ) → NumberFacts text (number_in text)
unfolding number_in NumberFacts
number_in-found text =
    by_test (nat_lt max_number_bytes (length text))
    (λ held. rw held (ltb-true max_number_bytes (length text) held))
    (λ failed. rw failed (number_of_option text (ltb-false max_number_bytes (length text) failed) (parts_of text) refl))

number_in-only : (text : List ℕ) (negative : Bool) (digits : ℕ) (power : ℤ) → IsShort text → SpellsNumber text negative digits power → number_in text ≡ Ok (record { negative = negative; digits = digits; power = power })
unfolding number_in
number_in-only text negative digits power short spells =
    let (p, is, sign, value, scale) = parts_only text negative digits power spells in
    let fits : nat_lt max_number_bytes (length text) ≡ false = le-ltb max_number_bytes (length text) short in
    rw (fits, is, sign, value, scale) refl

-- tenths

most_tenths-found : (negative : Bool) (n : ℕ) → n ≤ most_tenths negative → (negative ≡ true → n ≡ 0) × (n ≤ max_tenths)
most_tenths-found true n h = (λ _. omega arith, omega arith)
most_tenths-found false n h = (λ e. cc, h)

most_tenths-only : (negative : Bool) (n : ℕ) → (negative ≡ true → n ≡ 0) → n ≤ max_tenths → n ≤ most_tenths negative
most_tenths-only true n sign h = let nothing : n ≡ 0 = sign refl in omega arith
most_tenths-only false n sign h = h

pub tenths_of_spelling : (text : List ℕ) (negative : Bool) (digits : ℕ) (power : ℤ) (n : ℕ)
    → IsShort text → SpellsNumber text negative digits power → IsScaled (10 * digits) power n
    → (negative ≡ true → n ≡ 0) → n ≤ max_tenths → tenths_of text ≡ Ok n
unfolding tenths_of
tenths_of_spelling text negative digits power n short spells scale sign bound =
    let value : times_power digits (power +ℤ pos 1) ≡ Some n = scaled-only digits (power +ℤ pos 1) n (tenths-down digits power n scale) in
    let inside : at_most (most_tenths negative) (Some n) ≡ Some n = at_most-only (most_tenths negative) n (most_tenths-only negative n sign bound) in
    rw (number_in-only text negative digits power short spells, value, inside) refl

tenths_in_bounds : (text : List ℕ) (number : Number) → IsShort text
    → SpellsNumber text number.negative number.digits number.power
    → tenths_of text ≡ tenths_of_number (Ok number) → (o : Option ℕ)
    → at_most (most_tenths number.negative) (times_power number.digits
    (number.power +ℤ pos 1)) ≡ o → IsTenthsReading text (ok_or o Range)
tenths_in_bounds text number short spells whole None e = (
  short,
  (number.negative, number.digits, number.power, spells),
  λ n (spelling, bound).
      let (negative, digits, power, again, scale, sign) = spelling in
      let is : tenths_of text ≡ Ok n = tenths_of_spelling text negative digits power n short again scale sign bound in
      let is_not : tenths_of text ≡ Err Range = whole ∙ ap (λ (o : Option ℕ). ok_or o Range) e in
      cc,
)
tenths_in_bounds text number short spells whole (Some n) e =
    let h = at_most-found (most_tenths number.negative) (times_power number.digits (number.power +ℤ pos 1)) n e in
    let b = most_tenths-found number.negative n h.1 in
    (short, ((number.negative, number.digits, number.power, spells, tenths-up number.digits number.power n (scaled-found number.digits (number.power +ℤ pos 1) n h.0), b.0), b.1))

tenths_read : (text : List ℕ) (r : Result Number NumberFault) → number_in text ≡ r → NumberFacts text r → tenths_of text ≡ tenths_of_number r → IsTenthsReading text (tenths_of_number r)
unfolding NumberFacts
tenths_read text (Ok number) e h whole =
    tenths_in_bounds text number h.0 h.1 whole (at_most (most_tenths number.negative) (times_power number.digits (number.power +ℤ pos 1))) refl
tenths_read text (Err TooLong) e h whole = h
tenths_read text (Err Form) e h whole = h
tenths_read text (Err Range) e h whole = absurd h

tenths_found : (text : List ℕ) → IsTenthsReading text (tenths_of text)
unfolding tenths_of
tenths_found text = tenths_read text (number_in text) refl (number_in-found text) refl

-- a text has one reading
tenths_once : (text : List ℕ) (r s : Result ℕ NumberFault) → tenths_of text ≡ s → IsTenthsReading text r → IsTenthsReading text s → s ≡ r
tenths_once text (Ok n) s e r t =
    sym e ∙ tenths_of_spelling text r.1.0.0 r.1.0.1 r.1.0.2 n r.0 r.1.0.3 r.1.0.4 r.1.0.5 r.1.1
tenths_once text (Err TooLong) (Ok m) e r t = absurd (omega arith)
tenths_once text (Err TooLong) (Err TooLong) e r t = refl
tenths_once text (Err TooLong) (Err Form) e r t = absurd (omega arith)
tenths_once text (Err TooLong) (Err Range) e r t = absurd (omega arith)
tenths_once text (Err Form) (Ok m) e r t = absurd (r.1 (t.1.0.0, t.1.0.1, t.1.0.2, t.1.0.3))
tenths_once text (Err Form) (Err TooLong) e r t = absurd (omega arith)
tenths_once text (Err Form) (Err Form) e r t = refl
tenths_once text (Err Form) (Err Range) e r t = absurd (r.1 t.1)
tenths_once text (Err Range) (Ok m) e r t = absurd (r.2 m t.1)
tenths_once text (Err Range) (Err TooLong) e r t = absurd (omega arith)
tenths_once text (Err Range) (Err Form) e r t = absurd (t.1 r.1)
tenths_once text (Err Range) (Err Range) e r t = refl

pub tenths_reading : (text : List ℕ) (r : Result ℕ NumberFault) → (tenths_of text ≡ r) ↔ IsTenthsReading text r
tenths_reading text r =
    (λ e. subst (λ (r : Result ℕ NumberFault). IsTenthsReading text r) e (tenths_found text), λ h. tenths_once text r (tenths_of text) refl h (tenths_found text))

-- a text spells at most one number of tenths
pub tenths_alone : (text : List ℕ) (n m : ℕ) → SpellsTenths text n → SpellsTenths text m → m ≡ n
tenths_alone text n m (negative, digits, power, spells, scale, sign) (negative', digits', power', spells', scale', sign') =
    let (p, is, _, value, exponent) = parts_only text negative digits power spells in
    let (p', is', _, value', exponent') = parts_only text negative' digits' power' spells' in
    let same : p' ≡ p = same-some (sym is' ∙ is) in
    let same_digits : digits' ≡ digits = sym value' ∙ ap (λ p. (number_of_parts p).digits) same ∙ value in
    let same_power : power' ≡ power = sym exponent' ∙ ap (λ p. (number_of_parts p).power) same ∙ exponent in
    let moved : times_power (10 * digits') power' ≡ times_power (10 * digits) power = ap (λ d. times_power (10 * d) power') same_digits ∙ ap (λ z. times_power (10 * digits) z) same_power in
    same-some (sym (scaled-only (10 * digits') power' m scale') ∙ moved ∙ scaled-only (10 * digits) power n scale)

-- whole numbers

most_whole-found : (negative : Bool) (n : ℕ) → n ≤ most_whole negative → (neg_ℤ (pos max_negative_whole) ≤ℤ with_sign negative n) × (with_sign negative n ≤ℤ pos max_whole)
most_whole-found true n h = (omega (arith, ints), omega (arith, ints))
most_whole-found false n h = (omega (arith, ints), omega (arith, ints))

most_whole-only : (negative : Bool) (n : ℕ) → neg_ℤ (pos max_negative_whole) ≤ℤ with_sign negative n → with_sign negative n ≤ℤ pos max_whole → n ≤ most_whole negative
most_whole-only true n low high = omega (arith, ints)
most_whole-only false n low high = omega (arith, ints)

whole_of_spelling : (text : List ℕ) (negative : Bool) (digits : ℕ) (power : ℤ) (n : ℕ) (z : ℤ)
    → IsShort text → SpellsNumber text negative digits power → IsScaled digits power n
    → z ≡ with_sign negative n → neg_ℤ (pos max_negative_whole) ≤ℤ z → z ≤ℤ pos max_whole
    → whole_of text ≡ Ok z
unfolding whole_of
whole_of_spelling text negative digits power n z short spells scale is low high =
    let value : times_power digits power ≡ Some n = scaled-only digits power n scale in
    let fits : n ≤ most_whole negative = most_whole-only negative n (rw is at low) (rw is at high) in
    let inside : at_most (most_whole negative) (Some n) ≡ Some n = at_most-only (most_whole negative) n fits in
    rw (number_in-only text negative digits power short spells, value, inside, is) refl

whole_in_bounds : (text : List ℕ) (number : Number) → IsShort text
    → SpellsNumber text number.negative number.digits number.power
    → whole_of text ≡ whole_of_number (Ok number) → (o : Option ℕ)
    → at_most (most_whole number.negative) (times_power number.digits number.power) ≡ o
    → IsWholeReading text (ok_or (option_map (with_sign number.negative) o) Range)
whole_in_bounds text number short spells whole None e = (
  short,
  (number.negative, number.digits, number.power, spells),
  λ z (spelling, low, high).
      let (negative, digits, power, n, again, scale, sign) = spelling in
      let is : whole_of text ≡ Ok z = whole_of_spelling text negative digits power n z short again scale sign low high in
      let is_not : whole_of text ≡ Err Range = whole ∙ ap (λ (o : Option ℕ). ok_or (option_map (with_sign number.negative) o) Range) e in
      cc,
)
whole_in_bounds text number short spells whole (Some n) e =
    let h = at_most-found (most_whole number.negative) (times_power number.digits number.power) n e in
    let b = most_whole-found number.negative n h.1 in
    (short, ((number.negative, number.digits, number.power, n, spells, scaled-found number.digits number.power n h.0, refl), b.0, b.1))

whole_read : (text : List ℕ) (r : Result Number NumberFault) → number_in text ≡ r → NumberFacts text r → whole_of text ≡ whole_of_number r → IsWholeReading text (whole_of_number r)
unfolding NumberFacts
whole_read text (Ok number) e h whole =
    whole_in_bounds text number h.0 h.1 whole (at_most (most_whole number.negative) (times_power number.digits number.power)) refl
whole_read text (Err TooLong) e h whole = h
whole_read text (Err Form) e h whole = h
whole_read text (Err Range) e h whole = absurd h

whole_found : (text : List ℕ) → IsWholeReading text (whole_of text)
unfolding whole_of
whole_found text = whole_read text (number_in text) refl (number_in-found text) refl

-- a text has one reading
whole_once : (text : List ℕ) (r s : Result ℤ NumberFault) → whole_of text ≡ s → IsWholeReading text r → IsWholeReading text s → s ≡ r
whole_once text (Ok n) s e r t =
    sym e ∙ whole_of_spelling text r.1.0.0 r.1.0.1 r.1.0.2 r.1.0.3 n r.0 r.1.0.4 r.1.0.5 r.1.0.6 r.1.1 r.1.2
whole_once text (Err TooLong) (Ok m) e r t = absurd (omega arith)
whole_once text (Err TooLong) (Err TooLong) e r t = refl
whole_once text (Err TooLong) (Err Form) e r t = absurd (omega arith)
whole_once text (Err TooLong) (Err Range) e r t = absurd (omega arith)
whole_once text (Err Form) (Ok m) e r t = absurd (r.1 (t.1.0.0, t.1.0.1, t.1.0.2, t.1.0.4))
whole_once text (Err Form) (Err TooLong) e r t = absurd (omega arith)
whole_once text (Err Form) (Err Form) e r t = refl
whole_once text (Err Form) (Err Range) e r t = absurd (r.1 t.1)
whole_once text (Err Range) (Ok m) e r t = absurd (r.2 m t.1)
whole_once text (Err Range) (Err TooLong) e r t = absurd (omega arith)
whole_once text (Err Range) (Err Form) e r t = absurd (t.1 r.1)
whole_once text (Err Range) (Err Range) e r t = refl

pub whole_reading : (text : List ℕ) (r : Result ℤ NumberFault) → (whole_of text ≡ r) ↔ IsWholeReading text r
whole_reading text r =
    (λ e. subst (λ (r : Result ℤ NumberFault). IsWholeReading text r) e (whole_found text), λ h. whole_once text r (whole_of text) refl h (whole_found text))
