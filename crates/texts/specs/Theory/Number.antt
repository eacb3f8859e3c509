-- The number that a word's digits give is the one whose decimal text the word is.
use Rattle.std.proofs.Common.{◌≡◌, ◌↔◌, ℕ, ◌<◌, ◌≤◌, ◌&&◌, List, get_or, Bool, true, false, cond, nat_lt, nat_le, Result, Ok, Option, Some, None, ◌⊎◌, inl, inr, refl, sym, ap, ◌∙◌, arith, lit<, zero, suc, rules}
use Rattle.std.specs.Str.{bytes_eq, all_ascii_digits}
use Rattle.std.specs.Fmt.{decimal}
use Rattle.std.specs.Str.Parse.{digits_value, ParsesUnsigned}
use Rattle.std.proofs.lemmas.Bool.{ltb-true, lt-ltb, leb-true, le-leb}
use Rattle.std.proofs.lemmas.Slice.Eq.{bytes_eq-Decides}
use Rattle.std.proofs.lemmas.Fmt.{decimal_is_IsNumeral, decimal-digits_value, decimal_digit, first_decimal}
use Rattle.std.proofs.lemmas.Str.Parse.{IsNumeralModel, numerals_by_value, parse_plain}
use Rattle.site_core.specs.Limits.{max_number}
use Rattle.texts.specs.Number.{IsDecimalOf}
use Rattle.texts.specs.ByCases.Number.{is_number, begins_above_zero, number_of}

both_true : (a b : Bool) → (a && b) ≡ true → (a ≡ true) × (b ≡ true)
both_true true b e = (refl, e)
both_true false b e = absurd (cc)

-- one of two branches gave the value
pub either : {X : Type 0} (a : Bool) (x z : X) (o : Option X) → cond a (Some x) o ≡ Some z
    → ((a ≡ true) × (x ≡ z)) ⊎ ((a ≡ false) × (o ≡ Some z))
either true x z o e = inl (refl, cc)
either false x z o e = inr (refl, e)

-- a word is the decimal text of its number
pub number_is : (word : List ℕ) (n : ℕ) → number_of word ≡ Some n → IsDecimalOf word n
unfolding number_of
number_is word n some =
    let value = digits_value 10 word in
    elim (either (is_number word value) value n None some) [
      | inl test ↦
          let parts = both_true (bytes_eq word (decimal value))
          (nat_lt 0 value && nat_le value max_number) test.0 in
          let bounds = both_true (nat_lt 0 value) (nat_le value max_number) parts.1 in
          let same : value ≡ n = test.1 in (
            (bytes_eq-Decides word (decimal value)).0 parts.0 ∙ ap decimal same,
            (
              omega (arith, same, ltb-true 0 value bounds.0),
              omega (arith, same, leb-true value max_number bounds.1),
            ),
          )
      | inr none ↦ absurd (cc (none.1))
    ]

-- the decimal text of a number is that number
pub number_made : (n : ℕ) → 1 ≤ n → n ≤ max_number → number_of (decimal n) ≡ Some n
unfolding number_of
number_made n low high =
    let value = (decimal_is_IsNumeral n (omega (arith, high))).1 in
    let test : is_number (decimal n) n ≡ true =
    rw (
      (bytes_eq-Decides (decimal n) (decimal n)).1 refl,
      lt-ltb 0 n (omega (arith, low)),
      le-leb n max_number high,
    ) refl in
    ap (λ v. cond (is_number (decimal n) v) (Some v) None) value ∙ rw test refl

-- the number of a word is the one whose decimal text it is
made_of : (word : List ℕ) (n : ℕ) → IsDecimalOf word n → number_of word ≡ Some n
made_of word n is = ap number_of is.0 ∙ number_made n is.1.0 is.1.1

pub number_law : (word : List ℕ) (n : ℕ) → (number_of word ≡ Some n) ↔ IsDecimalOf word n
number_law word n = (number_is word n, made_of word n)

-- a word that isn't the number of a request
pub no_number : (word : List ℕ)
    → ((n : ℕ) → word ≡ decimal n → 1 ≤ n → n ≤ max_number → ⊥) → None ≡ number_of word
no_number word none =
    elim (number_of word) as (λ o. number_of word ≡ o → None ≡ o) [
      | None ↦ λ here. refl
      | Some n ↦ λ here. let is = number_is word n here in absurd (none n is.0 is.1.0 is.1.1)
    ] refl

-- a number of a request begins with a digit above 0
pub above_zero : (word : List ℕ) (n : ℕ) → word ≡ decimal n → 1 ≤ n → n ≤ max_number
    → begins_above_zero word ≡ true
above_zero word n is low high =
    ap begins_above_zero is
    ∙ lt-ltb 48 (get_or (decimal n) 0 0)
    (first_decimal n (omega (arith, low)) (omega (arith, high)))

digits_model : IsNumeralModel (λ ds. all_ascii_digits ds ≡ true) (digits_value 10)
digits_model = numerals_by_value _ (search rules)

-- a parsed word that begins with a digit above 0 is the number of a request, up to the highest
pub parsed : {E : Type 0} (word : List ℕ) (n : ℕ) (r : Result ℕ E) → ParsesUnsigned 64 10 word r
    → r ≡ Ok n → begins_above_zero word ≡ true → n ≤ max_number → Some n ≡ number_of word
parsed word n r parses ok above high =
    let first : 48 < get_or word 0 0 = ltb-true 48 (get_or word 0 0) above in
    let plain = rw ok at
    (parse_plain digits_model 64 word r parses (λ plus. absurd (omega (arith, first, plus)))) in
    let digits = plain.0 in
    let value : n ≡ digits_value 10 word = plain.1 in
    let text : decimal (digits_value 10 word) ≡ word =
    decimal-digits_value digits_model word digits.0 digits.1
    (λ zero. absurd (omega (arith, first, zero))) digits.2 in
    let same : word ≡ decimal n = sym text ∙ ap decimal (sym value) in
    let low : 1 ≤ n = elim n as (λ m. n ≡ m → 1 ≤ m) [
      | zero ↦ λ none. absurd (omega (
        arith,
        first,
        ap (λ l. get_or l 0 0) (same ∙ ap decimal none ∙ decimal_digit 0 (lit< tt)),
      ))
      | suc m ↦ λ some. omega arith
    ] refl in
    sym (number_made n low high) ∙ ap number_of (sym same)
