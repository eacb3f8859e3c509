-- The marked text: a JSON text (RFC 8259) in which each number has become a string, so that a
-- reader of JSON keeps its digits. From left to right, a string has the letter `s` after its
-- opening quote, a number has become a string that begins with the letter `n`, and every other byte
-- is copied.
use Rattle.std.specs.Prelude.{◌≡◌, ◌≢◌, ℕ, List, [], ◌∷◌, ◌++◌, Bool, true, false, ◌==◌, ◌||◌, ◌&&◌, nat_le, Option, Some, None, if◌then◌else◌}
use Rattle.json.specs.Ascii.{backslash}
use Rattle.ocpp_scalars.specs.Ascii.{digit_nine, digit_zero, dot, lower_e, lower_n, minus, plus, quote, upper_e}

-- the letter `s`
abbrev pub text_mark : ℕ
text_mark = 115

-- the letter `n`
abbrev pub number_mark : ℕ
number_mark = lower_n

-- a digit or `-`
abbrev pub begins_number : ℕ → Bool
begins_number b = (nat_le digit_zero b && nat_le b digit_nine) || (b == minus)

-- a digit, `-`, `+`, `.`, `e` or `E`
abbrev pub continues_number : ℕ → Bool
continues_number b =
    begins_number b || (b == plus) || (b == dot) || (b == lower_e) || (b == upper_e)

-- the bytes before a string's closing quote: a backslash escapes the next byte
pub data IsContent : List ℕ → Type 0 where
  no_content : IsContent []
  content_byte :
      (b : ℕ) (bs : List ℕ) → b ≢ quote → b ≢ backslash → IsContent bs → IsContent (b ∷ bs)
  content_pair : (b : ℕ) (bs : List ℕ) → IsContent bs → IsContent (backslash ∷ (b ∷ bs))

-- the bytes after the opening quote of a string that the text doesn't close
pub data IsUnclosed : List ℕ → Type 0 where
  no_byte : IsUnclosed []
  last_backslash : IsUnclosed (backslash ∷ [])
  unclosed_byte :
      (b : ℕ) (bs : List ℕ) → b ≢ quote → b ≢ backslash → IsUnclosed bs → IsUnclosed (b ∷ bs)
  unclosed_pair : (b : ℕ) (bs : List ℕ) → IsUnclosed bs → IsUnclosed (backslash ∷ (b ∷ bs))

-- each byte may be part of a number
abbrev pub AreNumberBytes : List ℕ → Type 0
AreNumberBytes [] = Unit {0}
AreNumberBytes (b ∷ bs) = (continues_number b ≡ true) × AreNumberBytes bs

-- the next byte, if there is one, isn't part of a number
abbrev pub EndsNumber : List ℕ → Type 0
EndsNumber [] = Unit {0}
EndsNumber (b ∷ bs) = continues_number b ≡ false

-- a text, and the marked text
pub data IsMarked : List ℕ → List ℕ → Type 0 where
  no_text : IsMarked [] []
  string : (content rest out : List ℕ) → IsContent content → IsMarked rest out
      → IsMarked
      (quote ∷ (content ++ (quote ∷ rest)))
      (quote ∷ (text_mark ∷ (content ++ (quote ∷ out))))
  unclosed_string : (content : List ℕ) → IsUnclosed content
      → IsMarked (quote ∷ content) (quote ∷ (text_mark ∷ content))
  number : (b : ℕ) (bs rest out : List ℕ)
      → begins_number b ≡ true → AreNumberBytes bs → EndsNumber rest → IsMarked rest out
      → IsMarked (b ∷ (bs ++ rest)) (quote ∷ (number_mark ∷ (b ∷ (bs ++ (quote ∷ out)))))
  other_byte : (b : ℕ) (rest out : List ℕ) → b ≢ quote → begins_number b ≡ false → IsMarked rest out
      → IsMarked (b ∷ rest) (b ∷ out)

-- the rest of a string after a mark
abbrev pub after_mark : ℕ → List ℕ → Option (List ℕ)
after_mark mark [] = None
after_mark mark (b ∷ bs) = if b == mark then Some bs else None
