-- The tokens of a marked text have no number.
use Rattle.std.proofs.Common.{◌≡◌, ℕ, ◌==◌, Bool, true, false, cond, ◌&&◌, ◌||◌, List, [], ◌∷◌, ◌++◌, length, take, drop, Option, Some, None, refl, sym, ap, ◌∙◌, subst, arith}
use Rattle.std.specs.Prelude.{⊤, nat_eq}
use Rattle.std.specs.List.{starts_with}
use Rattle.std.specs.Char.{is_ascii_digit}
use Rattle.std.proofs.lemmas.Bool.{false≢true, and_parts, eqb-true}
use Rattle.std.proofs.lemmas.Bool.Decides.{nat_tests}
use Rattle.std.proofs.lemmas.List.{take-append-drop}
use Rattle.std.proofs.lemmas.Slice.Eq.{bytes_eq-Decides}
use Rattle.json.specs.Ascii as ascii
use Rattle.json.specs.Token.{Token, begin_object, end_object, begin_array, end_array, key, string, number, boolean, null, bad}
use Rattle.json.specs.Text.{content, plain}
use Rattle.json.specs.Word.{is_operator, is_space, ends_word, after_number, literal, word}
use Rattle.json.specs.Lex.{Lexeme, token, comma, colon, Class, quote, backslash, operator, space, other, class, operator_lexeme, string_token, Mode, between, in_word, in_string, in_escape, lex_byte, lex}
use Rattle.json.specs.Lex.{Place, fresh, after_value, after_comma, after_key, begins_colon, may_begin, may_close, if_allowed, place_token, punctuate, tokens}
use Rattle.ocppj_frame.specs.Mark.{begins_number, continues_number}
use Rattle.ocppj_frame.specs.ByCases.Mark.{outside, inside, escaped, in_number, marked_from, marked_text}
use Rattle.ocppj_frame.specs.ByCases.Tokens.{HaveNoNumber}
use Rattle.ocppj_frame.proofs.Cases.{by_test}

-- a property of both alternatives holds of the one that a test chooses
chosen : {A : Type 0} (P : A → Type 0) (t : Bool) (x y : A) → P x → P y → P (cond t x y)
chosen P true x y p q = p
chosen P false x y p q = q

-- there is no number before the first bad token
abbrev Clean : List Lexeme → Type 0
Clean [] = ⊤
Clean (comma ∷ ls) = Clean ls
Clean (colon ∷ ls) = Clean ls
Clean (token begin_object ∷ ls) = Clean ls
Clean (token end_object ∷ ls) = Clean ls
Clean (token begin_array ∷ ls) = Clean ls
Clean (token end_array ∷ ls) = Clean ls
Clean (token (key s) ∷ ls) = Clean ls
Clean (token (string s) ∷ ls) = Clean ls
Clean (token (number s) ∷ ls) = ⊥
Clean (token (boolean b) ∷ ls) = Clean ls
Clean (token null ∷ ls) = Clean ls
Clean (token bad ∷ ls) = ⊤

-- commas and colons

allowed : (may : Bool) (t : Token) (k : Place → List Token) (next : Place)
    → HaveNoNumber (t ∷ k next) → HaveNoNumber (if_allowed may t k next)
allowed true t k next h = h
allowed false t k next h = tt

placed : (p : Place) (t : Token) (before_colon : Bool) (ls : List Lexeme) (k : Place → List Token)
    → Clean (token t ∷ ls)
    → (Clean ls → (next : Place) → HaveNoNumber (k next)) → HaveNoNumber (place_token p t before_colon k)
placed p begin_object c ls k h more = allowed (may_begin p) begin_object k fresh (more h fresh)
placed p end_object c ls k h more = allowed (may_close p) end_object k after_value (more h after_value)
placed p begin_array c ls k h more = allowed (may_begin p) begin_array k fresh (more h fresh)
placed p end_array c ls k h more = allowed (may_close p) end_array k after_value (more h after_value)
placed p (key s) c ls k h more = tt
placed p (string s) true ls k h more = allowed (may_begin p) (key s) k after_key (more h after_key)
placed p (string s) false ls k h more = allowed (may_begin p) (string s) k after_value (more h after_value)
placed p (number s) c ls k h more = absurd h
placed p (boolean b) c ls k h more = allowed (may_begin p) (boolean b) k after_value (more h after_value)
placed p null c ls k h more = allowed (may_begin p) null k after_value (more h after_value)
placed p bad c ls k h more = tt

punctuated : (ls : List Lexeme) (p : Place) → Clean ls → HaveNoNumber (punctuate p ls)
unfolding punctuate
punctuated [] fresh h = tt
punctuated [] after_value h = tt
punctuated [] after_comma h = tt
punctuated [] after_key h = tt
punctuated (token t ∷ ls) p h =
    placed p t (begins_colon ls) ls (λ next. punctuate next ls) h (λ rest next. punctuated ls next rest)
punctuated (comma ∷ ls) fresh h = tt
punctuated (comma ∷ ls) after_value h = punctuated ls after_comma h
punctuated (comma ∷ ls) after_comma h = tt
punctuated (comma ∷ ls) after_key h = tt
punctuated (colon ∷ ls) fresh h = tt
punctuated (colon ∷ ls) after_value h = tt
punctuated (colon ∷ ls) after_comma h = tt
punctuated (colon ∷ ls) after_key h = punctuated ls fresh h

-- words

abbrev PlainByte : Class → Type 0 → Type 0
PlainByte quote Rest = ⊥
PlainByte backslash Rest = ⊥
PlainByte operator Rest = ⊤
PlainByte space Rest = ⊤
PlainByte other Rest = Rest

-- no quote or backslash comes before the word's end
abbrev PlainWord : List ℕ → Type 0
PlainWord [] = ⊤
PlainWord (x ∷ xs) = PlainByte (class x) (PlainWord xs)

ending_byte : (x : ℕ) → (is_operator x || is_space x) ≡ true → ((x == 34) ≡ false) × ((x == 92) ≡ false)
ending_byte x h = (grind (arith, nat_tests), grind (arith, nat_tests))

ending_class : (o s : Bool) (Rest : Type 0) → (o || s) ≡ true → PlainByte (cond o operator (cond s space other)) Rest
ending_class true s Rest h = tt
ending_class false true Rest h = tt
ending_class false false Rest h = absurd (false≢true h)

-- the text after the end of a word
plain_end : (t : List ℕ) → ends_word t ≡ true → PlainWord t
plain_end [] h = tt
plain_end (x ∷ xs) h =
    let (no_quote, no_slash) = ending_byte x h in
    rw (no_quote, no_slash) (ending_class (is_operator x) (is_space x) (PlainWord xs) h)

plain_literal : (name t : List ℕ)
    → ((rest : List ℕ) → PlainWord rest → PlainWord (name ++ rest))
    → (starts_with nat_eq t name && ends_word (drop (length name) t)) ≡ true → PlainWord t
plain_literal name t passes h =
    let (starts, ends) = and_parts _ _ h in
    let front : name ≡ take (length name) t = (bytes_eq-Decides name (take (length name) t)).0 starts in
    subst PlainWord (ap (λ (l : List ℕ). l ++ drop (length name) t) front ∙ take-append-drop (length name) t)
    (passes (drop (length name) t) (plain_end (drop (length name) t) ends))

clean_literal : (name : List ℕ) (k : Token) (t : List ℕ) (ls : List Lexeme)
    → ((rest : List ℕ) → PlainWord rest → PlainWord (name ++ rest))
    → (PlainWord t → Clean (token k ∷ ls)) → Clean (token (literal name k t) ∷ ls)
clean_literal name k t ls passes good =
    by_test (starts_with nat_eq t name && ends_word (drop (length name) t))
    (λ held. rw held (good (plain_literal name t passes held)))
    (λ failed. rw failed tt)

not_digit : (x : ℕ) → begins_number x ≡ false
    → ((x == 45) ≡ false) × ((x == 48) ≡ false) × (is_ascii_digit x ≡ false)
not_digit x h = (grind (arith, nat_tests), grind (arith, nat_tests), grind (arith, nat_tests))

-- a number begins with a digit or `-`
no_number : (x : ℕ) (xs : List ℕ) → begins_number x ≡ false → after_number (x ∷ xs) ≡ None
unfolding after_number
no_number x xs h = let (minus, zero, digit) = not_digit x h in rw (minus, zero, digit) refl

-- so a word that begins otherwise is a literal or bad
clean_word : (x : ℕ) (xs : List ℕ) (ls : List Lexeme) → begins_number x ≡ false
    → (PlainWord (x ∷ xs) → Clean ls) → Clean (token (word (x ∷ xs)) ∷ ls)
unfolding word
clean_word x xs ls h more =
    let P = λ (k : Token). Clean (token k ∷ ls) in
    rw (no_number x xs h)
    (chosen P (x == 116) _ _ (clean_literal ascii.true_text (boolean true) (x ∷ xs) ls (λ rest same. same) more)
    (chosen P (x == 102) _ _ (clean_literal ascii.false_text (boolean false) (x ∷ xs) ls (λ rest same. same) more)
    (chosen P (x == 110) _ _ (clean_literal ascii.null_text null (x ∷ xs) ls (λ rest same. same) more) tt)))

-- one byte after another

string_clean : (o : Option (List ℕ)) (ls : List Lexeme) → Clean ls → Clean (token (string_token o) ∷ ls)
string_clean None ls h = tt
string_clean (Some s) ls h = h

operator_clean : (x : ℕ) (ls : List Lexeme) → Clean ls → Clean (operator_lexeme x ∷ ls)
operator_clean x ls h =
    let P = λ (l : Lexeme). Clean (l ∷ ls) in
    chosen P (x == 123) _ _ h (chosen P (x == 125) _ _ h
    (chosen P (x == 91) _ _ h (chosen P (x == 93) _ _ h (chosen P (x == 44) _ _ h h))))

-- the classes of a byte that isn't a quote
class_cases : (P : Class → Type 0) (b : ℕ) → (b == 34) ≡ false
    → P backslash → P operator → P space → P other → P (class b)
class_cases P b no_quote slash op blank word =
    rw no_quote
    (chosen P (b == 92) _ _ slash (chosen P (is_operator b) _ _ op (chosen P (is_space b) _ _ blank word)))

word_byte : (c : Class) (x : ℕ) (xs : List ℕ) (k : Mode → List Lexeme) → PlainByte c (PlainWord xs)
    → Clean (k between) → (PlainWord xs → Clean (k in_word)) → Clean (lex_byte in_word c x xs k)
word_byte quote x xs k is_plain apart within = absurd is_plain
word_byte backslash x xs k is_plain apart within = absurd is_plain
word_byte operator x xs k is_plain apart within = operator_clean x (k between) apart
word_byte space x xs k is_plain apart within = apart
word_byte other x xs k is_plain apart within = within is_plain

-- the lexemes read in a mode are clean
abbrev IsClean : Mode → List ℕ → Type 0
IsClean mode text = Clean (lex mode text)

-- the same outside strings, where the text may begin inside a word
abbrev IsCleanOutside : List ℕ → Type 0
IsCleanOutside text = IsClean between text × (PlainWord text → IsClean in_word text)

other_outside : (b : ℕ) (text : List ℕ) → (b == 34) ≡ false → begins_number b ≡ false
    → IsCleanOutside text → IsCleanOutside (b ∷ text)
unfolding lex
other_outside b text no_quote begins (apart, within) = (
  class_cases
      (λ c. (PlainWord (b ∷ text) → PlainByte c (PlainWord text))
      → Clean (lex_byte between c b text (λ m. lex m text)))
      b no_quote (λ same. tt) (λ same. operator_clean b (lex between text) apart) (λ same. apart)
      (λ same. clean_word b text (lex in_word text) begins (λ word. within (same word))) (λ word. word),
  λ word. word_byte (class b) b text (λ m. lex m text) word apart within,
)

quote_outside : (text : List ℕ) → IsClean in_string text → IsCleanOutside (34 ∷ text)
unfolding lex
quote_outside text h = (string_clean (content plain text) (lex in_string text) h, λ word. absurd word)

-- a string continues after each other byte
inside_string : (b : ℕ) (text : List ℕ) → (b == 34) ≡ false → (b == 92) ≡ false
    → IsClean in_string text → IsClean in_string (b ∷ text)
unfolding lex
inside_string b text no_quote no_slash h =
    let P = λ (c : Class). Clean (lex_byte in_string c b text (λ m. lex m text)) in
    rw (no_quote, no_slash) (chosen P (is_operator b) _ _ h (chosen P (is_space b) _ _ h h))

quote_inside : (text : List ℕ) → IsClean between text → IsClean in_string (34 ∷ text)
unfolding lex
quote_inside text h = h

slash_inside : (text : List ℕ) → IsClean in_escape text → IsClean in_string (92 ∷ text)
unfolding lex
slash_inside text h = h

in_escape_byte : (b : ℕ) (text : List ℕ) → IsClean in_string text → IsClean in_escape (b ∷ text)
unfolding lex
in_escape_byte b text h = h

end_clean : (mode : Mode) → IsClean mode []
unfolding lex
end_clean mode = tt

number_byte : (b : ℕ) → continues_number b ≡ true → ((b == 34) ≡ false) × ((b == 92) ≡ false)
number_byte b h = (grind (arith, nat_tests), grind (arith, nat_tests))

-- the marked text from each place
record AllClean (bs : List ℕ) : Type 0 where
  at_outside : IsCleanOutside (marked_from outside bs)
  at_inside : IsClean in_string (marked_from inside bs)
  at_escaped : IsClean in_escape (marked_from escaped bs)
  at_number : IsClean in_string (marked_from in_number bs)

outside_clean : (b : ℕ) (bs : List ℕ) → AllClean bs → IsCleanOutside (marked_from outside (b ∷ bs))
outside_clean b bs h =
    by_test (b == 34)
    (λ held. rw held (quote_outside _ (inside_string 115 _ refl refl h.at_inside)))
    (λ no_quote. by_test (begins_number b)
    (λ begins.
    let no_slash = (number_byte b (rw begins refl)).1 in
    rw (no_quote, begins)
    (quote_outside _ (inside_string 110 _ refl refl (inside_string b _ no_quote no_slash h.at_number))))
    (λ fails. rw (no_quote, fails) (other_outside b _ no_quote fails h.at_outside)))

inside_clean : (b : ℕ) (bs : List ℕ) → AllClean bs → IsClean in_string (marked_from inside (b ∷ bs))
inside_clean b bs h =
    let P = λ (c : ℕ). IsClean in_string (marked_from inside (c ∷ bs)) in
    by_test (b == 92)
    (λ held. subst P (sym (eqb-true b 92 held)) (slash_inside _ h.at_escaped))
    (λ no_slash. by_test (b == 34)
    (λ held. subst P (sym (eqb-true b 34 held)) (quote_inside _ h.at_outside.0))
    (λ no_quote. rw (no_slash, no_quote) (inside_string b _ no_quote no_slash h.at_inside)))

number_clean : (b : ℕ) (bs : List ℕ) → AllClean bs → IsClean between (marked_from outside (b ∷ bs))
    → IsClean in_string (marked_from in_number (b ∷ bs))
number_clean b bs h next =
    by_test (continues_number b)
    (λ continues.
    let (no_quote, no_slash) = number_byte b continues in
    rw continues (inside_string b _ no_quote no_slash h.at_number))
    (λ ends. rw ends (quote_inside _ next))

all_clean : (bs : List ℕ) → AllClean bs
all_clean [] = record {
  at_outside = (end_clean between, λ word. end_clean in_word);
  at_inside = end_clean in_string;
  at_escaped = end_clean in_escape;
  at_number = quote_inside [] (end_clean between);
}
all_clean (b ∷ bs) =
    let h = all_clean bs in
    let here = outside_clean b bs h in
    record {
      at_outside = here;
      at_inside = inside_clean b bs h;
      at_escaped = in_escape_byte b _ h.at_inside;
      at_number = number_clean b bs h here.0;
    }

pub marked_text_has_no_number : (bs : List ℕ) → HaveNoNumber (tokens (marked_text bs))
marked_text_has_no_number bs = punctuated (lex between (marked_text bs)) fresh (all_clean bs).at_outside.0
