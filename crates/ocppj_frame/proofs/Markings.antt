-- The definition byte by byte gives the marked text of the rules of marking, and no other.
use Rattle.std.proofs.Common.{◌≡◌, ℕ, ◌==◌, true, false, List, [], ◌∷◌, ◌++◌, refl, sym, ap, ◌∙◌, subst, arith}
use Rattle.std.specs.Prelude.{◌≢◌, ◌↔◌}
use Rattle.std.proofs.lemmas.Bool.{eqb-true, ne_eqb, eqb-false}
use Rattle.std.proofs.lemmas.Bool.Decides.{nat_tests}
use Rattle.ocppj_frame.specs.ByCases.Mark.{outside, inside, in_number, marked_from, marked_text}
use Rattle.ocppj_frame.specs.Mark.{begins_number, continues_number, IsContent, no_content, content_byte, content_pair, IsUnclosed, no_byte, last_backslash, unclosed_byte, unclosed_pair, AreNumberBytes, EndsNumber, IsMarked, no_text, string, unclosed_string, number, other_byte}
use Rattle.ocppj_frame.proofs.Cases.{by_test}

-- the definition gives the marked text of the rules

content_marked : (content rest : List ℕ) → IsContent content → marked_from inside (content ++ (34 ∷ rest)) ≡ content ++ (34 ∷ marked_from outside rest)
content_marked _ rest no_content = refl
content_marked _ rest (content_byte b bs quote slash h) =
    rw (ne_eqb b 92 slash, ne_eqb b 34 quote) (ap (λ (r : List ℕ). b ∷ r) (content_marked bs rest h))
content_marked _ rest (content_pair b bs h) = ap (λ (r : List ℕ). 92 ∷ (b ∷ r)) (content_marked bs rest h)

unclosed_marked : (content : List ℕ) → IsUnclosed content → marked_from inside content ≡ content
unclosed_marked _ no_byte = refl
unclosed_marked _ last_backslash = refl
unclosed_marked _ (unclosed_byte b bs quote slash h) =
    rw (ne_eqb b 92 slash, ne_eqb b 34 quote) (ap (λ (r : List ℕ). b ∷ r) (unclosed_marked bs h))
unclosed_marked _ (unclosed_pair b bs h) = ap (λ (r : List ℕ). 92 ∷ (b ∷ r)) (unclosed_marked bs h)

number_marked : (bs rest : List ℕ) → AreNumberBytes bs → EndsNumber rest → marked_from in_number (bs ++ rest) ≡ bs ++ (34 ∷ marked_from outside rest)
number_marked [] [] are ends = refl
number_marked [] (b ∷ rest) are ends = rw ends refl
number_marked (b ∷ bs) rest are ends = rw are.0 (ap (λ (r : List ℕ). b ∷ r) (number_marked bs rest are.1 ends))

no_quote : (b : ℕ) → begins_number b ≡ true → (b == 34) ≡ false
no_quote b h = grind (arith, nat_tests)

only_marked : (text out : List ℕ) → IsMarked text out → marked_from outside text ≡ out
only_marked _ _ no_text = refl
only_marked _ _ (string content rest out is h) =
    ap (λ (r : List ℕ). 34 ∷ (115 ∷ r)) (content_marked content rest is ∙ ap (λ (r : List ℕ). content ++ (34 ∷ r)) (only_marked rest out h))
only_marked _ _ (unclosed_string content is) = ap (λ (r : List ℕ). 34 ∷ (115 ∷ r)) (unclosed_marked content is)
only_marked _ _ (number b bs rest out begins are ends h) =
    rw (no_quote b begins, begins) (ap (λ (r : List ℕ). 34 ∷ (110 ∷ (b ∷ r))) (number_marked bs rest are ends ∙ ap (λ (r : List ℕ). bs ++ (34 ∷ r)) (only_marked rest out h)))
only_marked _ _ (other_byte b rest out quote begins h) =
    rw (ne_eqb b 34 quote, begins) (ap (λ (r : List ℕ). b ∷ r) (only_marked rest out h))

-- the rules give the marked text of the definition

abbrev IsDone : List ℕ → Type 0
IsDone text = IsMarked text (marked_from outside text)

-- the text after an opening quote
data AfterQuote : List ℕ → Type 0 where
  closed : (content rest : List ℕ) → IsContent content → IsDone rest → AfterQuote (content ++ (34 ∷ rest))
  unclosed : (content : List ℕ) → IsUnclosed content → AfterQuote content

-- the text after a number's first byte
data AfterDigit : List ℕ → Type 0 where
  run : (bs rest : List ℕ) → AreNumberBytes bs → EndsNumber rest → IsDone rest → AfterDigit (bs ++ rest)

string_found : (bs : List ℕ) → AfterQuote bs → IsDone (34 ∷ bs)
string_found _ (closed content rest is h) =
    subst (λ (r : List ℕ). IsMarked (34 ∷ (content ++ (34 ∷ rest))) (34 ∷ (115 ∷ r))) (sym (content_marked content rest is))
    (string content rest (marked_from outside rest) is h)
string_found _ (unclosed content is) =
    subst (λ (r : List ℕ). IsMarked (34 ∷ content) (34 ∷ (115 ∷ r))) (sym (unclosed_marked content is)) (unclosed_string content is)

number_found : (b : ℕ) (bs : List ℕ) → begins_number b ≡ true → AfterDigit bs → IsMarked (b ∷ bs) (34 ∷ (110 ∷ (b ∷ marked_from in_number bs)))
number_found b _ begins (run bs rest are ends h) =
    subst (λ (r : List ℕ). IsMarked (b ∷ (bs ++ rest)) (34 ∷ (110 ∷ (b ∷ r)))) (sym (number_marked bs rest are ends))
    (number b bs rest (marked_from outside rest) begins are ends h)

text_found : (b : ℕ) (bs : List ℕ) → IsDone bs → AfterQuote bs → AfterDigit bs → IsDone (b ∷ bs)
text_found b bs done quote digit =
    by_test (b == 34)
    (λ held. subst (λ (c : ℕ). IsDone (c ∷ bs)) (sym (eqb-true b 34 held)) (string_found bs quote))
    (λ other. by_test (begins_number b)
    (λ begins. rw (other, begins) (number_found b bs begins digit))
    (λ fails. rw (other, fails) (other_byte b bs (marked_from outside bs) (eqb-false b 34 other) fails done)))

byte_after_quote : (b : ℕ) (bs : List ℕ) → b ≢ 34 → b ≢ 92 → AfterQuote bs → AfterQuote (b ∷ bs)
byte_after_quote b _ quote slash (closed content rest is h) = closed (b ∷ content) rest (content_byte b content quote slash is) h
byte_after_quote b _ quote slash (unclosed content is) = unclosed (b ∷ content) (unclosed_byte b content quote slash is)

pair_after_quote : (b : ℕ) (bs : List ℕ) → AfterQuote bs → AfterQuote (92 ∷ (b ∷ bs))
pair_after_quote b _ (closed content rest is h) = closed (92 ∷ (b ∷ content)) rest (content_pair b content is) h
pair_after_quote b _ (unclosed content is) = unclosed (92 ∷ (b ∷ content)) (unclosed_pair b content is)

quote_found : (b : ℕ) (bs : List ℕ) → IsDone bs → AfterQuote bs → AfterQuote (92 ∷ bs) → AfterQuote (b ∷ bs)
quote_found b bs done quote slash =
    by_test (b == 34)
    (λ held. subst (λ (c : ℕ). AfterQuote (c ∷ bs)) (sym (eqb-true b 34 held)) (closed [] bs no_content done))
    (λ no_quote. by_test (b == 92)
    (λ held. subst (λ (c : ℕ). AfterQuote (c ∷ bs)) (sym (eqb-true b 92 held)) slash)
    (λ no_slash. byte_after_quote b bs (eqb-false b 34 no_quote) (eqb-false b 92 no_slash) quote))

byte_after_digit : (b : ℕ) (bs : List ℕ) → continues_number b ≡ true → AfterDigit bs → AfterDigit (b ∷ bs)
byte_after_digit b _ continues (run bs rest are ends h) = run (b ∷ bs) rest (continues, are) ends h

digit_found : (b : ℕ) (bs : List ℕ) → IsDone (b ∷ bs) → AfterDigit bs → AfterDigit (b ∷ bs)
digit_found b bs done digit =
    by_test (continues_number b)
    (λ continues. byte_after_digit b bs continues digit)
    (λ ends. run [] (b ∷ bs) tt ends done)

all_found : (bs : List ℕ) → IsDone bs × AfterQuote bs × AfterQuote (92 ∷ bs) × AfterDigit bs
all_found [] = (no_text, unclosed [] no_byte, unclosed (92 ∷ []) last_backslash, run [] [] tt tt no_text)
all_found (b ∷ bs) =
    let (done, quote, slash, digit) = all_found bs in
    let text = text_found b bs done quote digit in
    (text, quote_found b bs done quote slash, pair_after_quote b bs quote, digit_found b bs text digit)

pub marked_by_rules : (text out : List ℕ) → (marked_text text ≡ out) ↔ IsMarked text out
marked_by_rules text out = (
  λ same. subst (λ (r : List ℕ). IsMarked text r) same (all_found text).0,
  only_marked text out,
)
