-- A number's text is split into its parts exactly as RFC 8259's grammar says.
use Rattle.std.proofs.Common.{◌≡◌, ℕ, ◌+◌, ◌-◌, ◌*◌, ◌≤◌, Bool, true, false, not, ◌||◌, ◌==◌, if◌then◌else◌, inl, inr, List, [], ◌∷◌, ◌++◌, length, ℤ, pos, ◌-ℤ◌, Option, Some, None, refl, sym, ap, subst, ◌∙◌, append-nil, length-append, arith}
use Rattle.std.specs.Char.{is_ascii_digit}
use Rattle.std.proofs.lemmas.Bool.{cond_both, eqb-true, ne_eqb}
use Rattle.ocpp_scalars.specs.Digits.{IsDigit, AreDigits, value_after, decimal_value}
use Rattle.ocpp_scalars.specs.ByCases.Digits.{digits_of, after_digits, is_empty}
use Rattle.ocpp_scalars.specs.ByCases.NumberText.{Parts, sign_at, is_whole, whole_at, digits_at, fraction_at, exponent_sign_at, exponent_in, parts_of, FitIn}
use Rattle.ocpp_scalars.specs.NumberText.{AreSomeDigits, IsMinus, no_minus, minus_sign, IsWhole, IsFraction, no_fraction, decimal_point, IsE, IsExponent, no_exponent, unsigned_exponent, plus_exponent, minus_exponent, SpellsNumber}
use Rattle.ocpp_scalars.specs.Number.{with_sign}
use Rattle.ocpp_scalars.specs.ByCases.Number.{number_of_parts}
use Rattle.ocpp_scalars.proofs.Cases.{by_test, step-some, same-some, test-some, test-none, or-true}
use Rattle.ocpp_scalars.proofs.Texts.{AreDigits-digits_of}

pub value_after-append : (n : ℕ) (xs bs : List ℕ) → value_after n (xs ++ bs) ≡ value_after (value_after n xs) bs
value_after-append n [] bs = refl
value_after-append n (a ∷ xs) bs = value_after-append (n * 10 + (a - 48)) xs bs

pub digits_split : (bs : List ℕ) → bs ≡ digits_of bs ++ after_digits bs
digits_split [] = refl
digits_split (b ∷ bs) =
    by_test (is_ascii_digit b) (λ e. rw e (ap (λ r. b ∷ r) (digits_split bs))) (λ e. rw e refl)

digit_test : (d : ℕ) → IsDigit d → is_ascii_digit d ≡ true
digit_test d h = grind arith

is_empty-some : (ds : List ℕ) → is_empty ds ≡ false → 1 ≤ length ds
is_empty-some [] e = cc
is_empty-some (d ∷ ds) e = omega arith

pub is_empty-nil : (ds : List ℕ) → is_empty ds ≡ true → ds ≡ []
is_empty-nil [] e = refl
is_empty-nil (d ∷ ds) e = cc

-- each part that is split off has the form of its rule in the grammar

sign_found : (text : List ℕ) → (m : List ℕ) × IsMinus (sign_at text).0 m × (text ≡ m ++ (sign_at text).1)
sign_found [] = ([], no_minus, refl)
sign_found (b ∷ bs) =
    cond_both {A = Bool × List ℕ} (b == 45) (true, bs) (false, b ∷ bs) (λ s. (m : List ℕ) × IsMinus s.0 m × (b ∷ bs ≡ m ++ s.1))
    (λ e. (45 ∷ [], minus_sign, ap (λ c. c ∷ bs) (eqb-true b 45 e)))
    (λ e. ([], no_minus, refl))

digits_found : (text : List ℕ) (x : List ℕ × List ℕ) → digits_at text ≡ Some x → AreSomeDigits x.0 × (text ≡ x.0 ++ x.1)
digits_found text x e =
    let h = test-none (is_empty (digits_of text)) (digits_of text, after_digits text) x e in
    subst (λ (x : List ℕ × List ℕ). AreSomeDigits x.0 × (text ≡ x.0 ++ x.1)) h.1 ((is_empty-some (digits_of text) h.0, AreDigits-digits_of text), digits_split text)

is_whole-found : (ds : List ℕ) → is_whole ds ≡ true → AreDigits ds → IsWhole ds
is_whole-found [] e digits = cc
is_whole-found (b ∷ bs) e digits = (
  (omega arith, digits),
  λ cs same.
      let zero_first : b ≡ 48 = cc in
      let rest : bs ≡ cs = cc in
      let alone = subst (λ (b : ℕ). (not (b == 48) || is_empty bs) ≡ true) zero_first e in
      sym rest ∙ is_empty-nil bs alone,
)

whole_found : (text : List ℕ) (x : List ℕ × List ℕ) → whole_at text ≡ Some x → IsWhole x.0 × (text ≡ x.0 ++ x.1)
whole_found text x e =
    let h = test-some (is_whole (digits_of text)) (digits_of text, after_digits text) x e in
    subst (λ (x : List ℕ × List ℕ). IsWhole x.0 × (text ≡ x.0 ++ x.1)) h.1 (is_whole-found (digits_of text) h.0 (AreDigits-digits_of text), digits_split text)

fraction_found : (text : List ℕ) (x : List ℕ × List ℕ) → fraction_at text ≡ Some x → (f : List ℕ) × IsFraction x.0 f × (text ≡ f ++ x.1)
fraction_found [] x e =
    let same : ◌≡◌ {A = List ℕ × List ℕ} ([], []) x = cc in
    subst (λ (x : List ℕ × List ℕ). (f : List ℕ) × IsFraction x.0 f × ([] ≡ f ++ x.1)) same ([], no_fraction, refl)
fraction_found (b ∷ bs) x e =
    by_test (b == 46)
    (λ held.
    let d = digits_found bs x (rw held at e) in
    (46 ∷ x.0, decimal_point x.0 d.0, ap (λ c. c ∷ bs) (eqb-true b 46 held) ∙ ap (λ r. 46 ∷ r) d.1))
    (λ failed.
    let none : ◌≡◌ {A = Option (List ℕ × List ℕ)} (Some ([], b ∷ bs)) (Some x) = rw failed at e in
    let same : ◌≡◌ {A = List ℕ × List ℕ} ([], b ∷ bs) x = cc in
    subst (λ (x : List ℕ × List ℕ). (f : List ℕ) × IsFraction x.0 f × (b ∷ bs ≡ f ++ x.1)) same ([], no_fraction, refl))

exponent_sign_found : (e : ℕ) (text ds : List ℕ) → IsE e → AreSomeDigits ds → (exponent_sign_at text).1 ≡ ds → IsExponent (with_sign (exponent_sign_at text).0 (decimal_value ds)) (e ∷ text)
exponent_sign_found e [] ds is_e digits = λ same. absurd (omega (arith, digits.0, ap length same))
exponent_sign_found e (c ∷ cs) ds is_e digits =
    cond_both {A = Bool × List ℕ} (c == 45) (true, cs) (if c == 43 then (false, cs) else (false, c ∷ cs)) (λ s. s.1 ≡ ds → IsExponent (with_sign s.0 (decimal_value ds)) (e ∷ (c ∷ cs)))
    (λ held same. rw (eqb-true c 45 held, same) (minus_exponent e ds is_e digits))
    (λ failed.
    cond_both {A = Bool × List ℕ} (c == 43) (false, cs) (false, c ∷ cs) (λ s. s.1 ≡ ds → IsExponent (with_sign s.0 (decimal_value ds)) (e ∷ (c ∷ cs)))
    (λ held same. rw (eqb-true c 43 held, same) (plus_exponent e ds is_e digits))
    (λ none same. rw same (unsigned_exponent e ds is_e digits)))

is_e-found : (b : ℕ) → ((b == 101) || (b == 69)) ≡ true → IsE b
is_e-found b e =
    elim (or-true (b == 101) (b == 69) e) [ inl small ↦ inl (eqb-true b 101 small) | inr capital ↦ inr (eqb-true b 69 capital) ]

exponent_found : (text : List ℕ) (x : Bool × List ℕ) → exponent_in text ≡ Some x → IsExponent (with_sign x.0 (decimal_value x.1)) text
exponent_found [] x e =
    let same : ◌≡◌ {A = Bool × List ℕ} (false, []) x = cc in
    subst (λ (x : Bool × List ℕ). IsExponent (with_sign x.0 (decimal_value x.1)) []) same no_exponent
exponent_found (b ∷ bs) x e =
    by_test ((b == 101) || (b == 69))
    (λ held.
    let (d, is, end) = step-some (digits_at (exponent_sign_at bs).1) x (rw held at e) in
    let t = test-some (is_empty d.1) ((exponent_sign_at bs).0, d.0) x end in
    let h = digits_found (exponent_sign_at bs).1 d is in
    let all : (exponent_sign_at bs).1 ≡ d.0 = h.1 ∙ ap (λ r. d.0 ++ r) (is_empty-nil d.1 t.0) ∙ append-nil d.0 in
    subst (λ (x : Bool × List ℕ). IsExponent (with_sign x.0 (decimal_value x.1)) (b ∷ bs)) t.1 (exponent_sign_found b bs d.0 (is_e-found b held) h.0 all))
    (λ failed. let none : ◌≡◌ {A = Option (Bool × List ℕ)} None (Some x) = rw failed at e in cc)

pub parts_found : (text : List ℕ) (p : Parts) → parts_of text ≡ Some p → SpellsNumber text p.negative (number_of_parts p).digits (number_of_parts p).power
unfolding parts_of
parts_found text p e =
    let s = sign_found text in
    let (w, w_is, e1) = step-some (whole_at (sign_at text).1) p e in
    let (f, f_is, e2) = step-some (fraction_at w.1) p e1 in
    let (x, x_is, e3) = step-some (exponent_in f.1) p e2 in
    let made : Parts = record { negative = (sign_at text).0; whole = w.0; fraction = f.0; negative_exponent = x.0; exponent = x.1 } in
    let same : made ≡ p = same-some e3 in
    let whole = whole_found (sign_at text).1 w w_is in
    let fraction = fraction_found w.1 f f_is in
    subst (λ (p : Parts). SpellsNumber text p.negative (number_of_parts p).digits (number_of_parts p).power) {x = made} same (record {
      sign = s.0;
      whole = w.0;
      fraction = fraction.0;
      fraction_digits = f.0;
      exponent = f.1;
      exponent_power = with_sign x.0 (decimal_value x.1);
      is_text = s.2 ∙ ap (λ r. s.0 ++ r) (whole.1 ∙ ap (λ r. w.0 ++ r) fraction.2);
      is_minus = s.1;
      is_whole = whole.0;
      is_fraction = fraction.1;
      is_exponent = exponent_found f.1 x x_is;
      is_digits = sym (value_after-append 0 w.0 f.0);
      is_power = refl;
    })

-- the digits that are split off, and how many there can be

fraction_fits : (ds f : List ℕ) → IsFraction ds f → AreDigits ds × (length ds ≤ length f)
fraction_fits _ _ no_fraction = (tt, omega arith)
fraction_fits _ _ (decimal_point ds digits) = (digits.1, omega arith)

exponent_sign_shorter : (text : List ℕ) → length (exponent_sign_at text).1 ≤ length text
exponent_sign_shorter [] = omega arith
exponent_sign_shorter (c ∷ cs) =
    cond_both {A = Bool × List ℕ} (c == 45) (true, cs) (if c == 43 then (false, cs) else (false, c ∷ cs)) (λ s. length s.1 ≤ length (c ∷ cs))
    (λ held. omega arith)
    (λ failed. cond_both {A = Bool × List ℕ} (c == 43) (false, cs) (false, c ∷ cs) (λ s. length s.1 ≤ length (c ∷ cs)) (λ held. omega arith) (λ none. omega arith))

exponent_fits : (text : List ℕ) (x : Bool × List ℕ) → exponent_in text ≡ Some x → AreDigits x.1 × (length x.1 ≤ length text)
exponent_fits [] x e = subst (λ (x : Bool × List ℕ). AreDigits x.1 × (length x.1 ≤ 0)) (same-some e) (tt, omega arith)
exponent_fits (b ∷ bs) x e =
    by_test ((b == 101) || (b == 69))
    (λ held.
    let (d, is, end) = step-some (digits_at (exponent_sign_at bs).1) x (rw held at e) in
    let t = test-some (is_empty d.1) ((exponent_sign_at bs).0, d.0) x end in
    let h = digits_found (exponent_sign_at bs).1 d is in
    let parted : length (exponent_sign_at bs).1 ≡ length d.0 + length d.1 = ap length h.1 ∙ length-append d.0 d.1 in
    subst (λ (x : Bool × List ℕ). AreDigits x.1 × (length x.1 ≤ length (b ∷ bs))) t.1 (h.0.1, omega (arith, parted, exponent_sign_shorter bs)))
    (λ failed. let none : ◌≡◌ {A = Option (Bool × List ℕ)} None (Some x) = rw failed at e in cc)

pub parts_fit : (text : List ℕ) (p : Parts) → parts_of text ≡ Some p → FitIn (length text) p
unfolding parts_of
parts_fit text p e =
    let s = sign_found text in
    let (w, w_is, e1) = step-some (whole_at (sign_at text).1) p e in
    let (f, f_is, e2) = step-some (fraction_at w.1) p e1 in
    let (x, x_is, e3) = step-some (exponent_in f.1) p e2 in
    let made : Parts = record { negative = (sign_at text).0; whole = w.0; fraction = f.0; negative_exponent = x.0; exponent = x.1 } in
    let same : made ≡ p = same-some e3 in
    let whole = whole_found (sign_at text).1 w w_is in
    let (g, g_is, fraction) = fraction_found w.1 f f_is in
    let fits = fraction_fits f.0 g g_is in
    let last = exponent_fits f.1 x x_is in
    let first : length text ≡ length s.0 + length (sign_at text).1 = ap length s.2 ∙ length-append s.0 (sign_at text).1 in
    let second : length (sign_at text).1 ≡ length w.0 + length w.1 = ap length whole.1 ∙ length-append w.0 w.1 in
    let third : length w.1 ≡ length g + length f.1 = ap length fraction ∙ length-append g f.1 in
    subst (λ (p : Parts). FitIn (length text) p) {x = made} same (record {
      whole_digits = whole.0.0.1;
      fraction_digits = fits.0;
      exponent_digits = last.0;
      lengths = omega (arith, first, second, third, fits.1, last.1);
    })

-- each text of the grammar is split into its parts again

-- the rest of a text after digits, and after a whole part without a point
unfoldable pub Stops : List ℕ → Type 0
Stops [] = Unit {0}
Stops (b ∷ bs) = is_ascii_digit b ≡ false

HasNoPoint : List ℕ → Type 0
HasNoPoint [] = Unit {0}
HasNoPoint (b ∷ bs) = (b == 46) ≡ false

pub digits_only : (ds rest : List ℕ) → AreDigits ds → Stops rest → (digits_of (ds ++ rest) ≡ ds) × (after_digits (ds ++ rest) ≡ rest)
unfolding Stops
digits_only [] [] digits stops = (refl, refl)
digits_only [] (b ∷ bs) digits stops = (rw stops refl, rw stops refl)
digits_only (d ∷ ds) rest digits stops =
    let is : is_ascii_digit d ≡ true = digit_test d digits.0 in
    let h = digits_only ds rest digits.1 stops in
    (rw is (ap (λ r. d ∷ r) h.0), rw is h.1)

some-is_empty : (ds : List ℕ) → 1 ≤ length ds → is_empty ds ≡ false
some-is_empty [] h = absurd (omega arith)
some-is_empty (d ∷ ds) h = refl

digits_at-only : (ds rest : List ℕ) → AreSomeDigits ds → Stops rest → digits_at (ds ++ rest) ≡ Some (ds, rest)
digits_at-only ds rest digits stops =
    let h = digits_only ds rest digits.1 stops in
    let some : is_empty ds ≡ false = some-is_empty ds digits.0 in
    rw (h.0, h.1, some) refl

is_whole-only : (ds : List ℕ) → IsWhole ds → is_whole ds ≡ true
is_whole-only [] h = absurd (omega (arith, h.0.0))
is_whole-only (b ∷ bs) h =
    by_test (b == 48)
    (λ held. rw (held, h.1 bs (ap (λ c. c ∷ bs) (eqb-true b 48 held))) refl)
    (λ failed. rw failed refl)

whole_only : (ds rest : List ℕ) → IsWhole ds → Stops rest → whole_at (ds ++ rest) ≡ Some (ds, rest)
whole_only ds rest whole stops =
    let h = digits_only ds rest whole.0.1 stops in
    let is : is_whole ds ≡ true = is_whole-only ds whole in
    rw (h.0, h.1, is) refl

sign_only : (negative : Bool) (m w rest : List ℕ) → IsMinus negative m → AreSomeDigits w → sign_at (m ++ (w ++ rest)) ≡ (negative, w ++ rest)
sign_only negative m [] rest is digits = absurd (omega (arith, digits.0))
sign_only false [] (d ∷ ds) rest no_minus digits =
    let apart : (d == 45) ≡ false = ne_eqb d 45 (λ same. absurd (omega (arith, digits.1.0))) in
    rw apart refl
sign_only false (_ ∷ _) (d ∷ ds) rest is digits = elim is [ ]
sign_only true [] (d ∷ ds) rest is digits = elim is [ ]
sign_only true (_ ∷ _) (d ∷ ds) rest minus_sign digits = refl

fraction_only : (ds f rest : List ℕ) → IsFraction ds f → Stops rest → HasNoPoint rest → fraction_at (f ++ rest) ≡ Some (ds, rest)
unfolding HasNoPoint
fraction_only [] [] [] no_fraction stops point = refl
fraction_only [] [] (b ∷ bs) no_fraction stops point = rw point refl
fraction_only _ _ rest (decimal_point ds digits) stops point = digits_at-only ds rest digits stops

is_e_test : (e : ℕ) → IsE e → ((e == 101) || (e == 69)) ≡ true
is_e_test e is_e = elim is_e [ inl small ↦ rw small refl | inr capital ↦ rw capital refl ]

exponent_sign_only : (ds : List ℕ) → AreSomeDigits ds → exponent_sign_at ds ≡ (false, ds)
exponent_sign_only [] digits = absurd (omega (arith, digits.0))
exponent_sign_only (d ∷ ds) digits =
    let minus : (d == 45) ≡ false = ne_eqb d 45 (λ same. absurd (omega (arith, digits.1.0))) in
    let plus : (d == 43) ≡ false = ne_eqb d 43 (λ same. absurd (omega (arith, digits.1.0))) in
    rw (minus, plus) refl

all_digits : (ds : List ℕ) → AreSomeDigits ds → digits_at ds ≡ Some (ds, [])
unfolding Stops
all_digits ds digits = rw append-nil at (digits_at-only ds [] digits tt)

exponent_only : (power : ℤ) (x : List ℕ) → IsExponent power x → (r : Bool × List ℕ) × (exponent_in x ≡ Some r) × (with_sign r.0 (decimal_value r.1) ≡ power)
exponent_only _ _ no_exponent = ((false, []), refl, refl)
exponent_only _ _ (unsigned_exponent e ds is_e digits) =
    let test : ((e == 101) || (e == 69)) ≡ true = is_e_test e is_e in
    let sign : exponent_sign_at ds ≡ (false, ds) = exponent_sign_only ds digits in
    let all : digits_at ds ≡ Some (ds, []) = all_digits ds digits in
    ((false, ds), rw (test, sign, all) refl, refl)
exponent_only _ _ (plus_exponent e ds is_e digits) =
    let test : ((e == 101) || (e == 69)) ≡ true = is_e_test e is_e in
    let all : digits_at ds ≡ Some (ds, []) = all_digits ds digits in
    ((false, ds), rw (test, all) refl, refl)
exponent_only _ _ (minus_exponent e ds is_e digits) =
    let test : ((e == 101) || (e == 69)) ≡ true = is_e_test e is_e in
    let all : digits_at ds ≡ Some (ds, []) = all_digits ds digits in
    ((true, ds), rw (test, all) refl, refl)

e_stops : (e : ℕ) → IsE e → (is_ascii_digit e ≡ false) × ((e == 46) ≡ false)
e_stops e is_e = elim is_e [ inl small ↦ (rw small refl, rw small refl) | inr capital ↦ (rw capital refl, rw capital refl) ]

exponent_stops : (power : ℤ) (x : List ℕ) → IsExponent power x → Stops x × HasNoPoint x
unfolding Stops HasNoPoint
exponent_stops _ _ no_exponent = (tt, tt)
exponent_stops _ _ (unsigned_exponent e ds is_e digits) = e_stops e is_e
exponent_stops _ _ (plus_exponent e ds is_e digits) = e_stops e is_e
exponent_stops _ _ (minus_exponent e ds is_e digits) = e_stops e is_e

fraction_stops : (ds f rest : List ℕ) → IsFraction ds f → Stops rest → Stops (f ++ rest)
unfolding Stops
fraction_stops _ _ rest no_fraction stops = stops
fraction_stops _ _ rest (decimal_point ds digits) stops = refl

-- the parts of a text of the grammar
pub parts_only : (text : List ℕ) (negative : Bool) (digits : ℕ) (power : ℤ)
    → SpellsNumber text negative digits power
    → (p : Parts) × (parts_of text ≡ Some p) × (p.negative ≡ negative) ×
    ((number_of_parts p).digits ≡ digits) × ((number_of_parts p).power ≡ power)
unfolding parts_of
parts_only text negative digits power n =
    let stops = exponent_stops n.exponent_power n.exponent n.is_exponent in
    let x = exponent_only n.exponent_power n.exponent n.is_exponent in
    let sign : sign_at text ≡ (negative, n.whole ++ (n.fraction ++ n.exponent)) = ap sign_at n.is_text ∙ sign_only negative n.sign n.whole (n.fraction ++ n.exponent) n.is_minus n.is_whole.0 in
    let whole : whole_at (n.whole ++ (n.fraction ++ n.exponent)) ≡ Some
    (n.whole, n.fraction ++ n.exponent) = whole_only n.whole (n.fraction ++ n.exponent) n.is_whole
    (fraction_stops n.fraction_digits n.fraction n.exponent n.is_fraction stops.0) in
    let fraction : fraction_at (n.fraction ++ n.exponent) ≡ Some (n.fraction_digits, n.exponent) = fraction_only n.fraction_digits n.fraction n.exponent n.is_fraction stops.0 stops.1 in (
      record { negative = negative; whole = n.whole; fraction = n.fraction_digits; negative_exponent = x.0.0; exponent = x.0.1 },
      rw sign (rw whole (rw fraction (rw x.1 refl))),
      refl,
      sym (value_after-append 0 n.whole n.fraction_digits) ∙ sym n.is_digits,
      ap (λ z. z -ℤ pos (length n.fraction_digits)) x.2 ∙ sym n.is_power,
    )
