-- The marked text byte by byte. Equal to that of `Mark` by the law `marked_texts`.
use Rattle.std.specs.Prelude.{ℕ, List, [], ◌∷◌, ◌++◌, ◌==◌, if◌then◌else◌}
use Rattle.json.specs.Ascii.{backslash}
use Rattle.ocpp_scalars.specs.Ascii.{quote}
use Rattle.ocppj_frame.specs.Mark.{text_mark, number_mark, begins_number, continues_number}

-- the place of a byte: outside strings and numbers, inside a string, inside a string after a
-- backslash, or in a number
pub data Place : Type 0 where
  outside : Place
  inside : Place
  escaped : Place
  in_number : Place

-- outside strings a quote begins a string, and a digit or `-` begins a number
abbrev pub place_outside : ℕ → Place
place_outside b = if b == quote then inside else if begins_number b then in_number else outside

-- the place of the next byte: a backslash escapes that byte, a quote that isn't escaped ends the
-- string, and a number is the longest run of its bytes
abbrev pub place_after : Place → ℕ → Place
place_after outside b = place_outside b
place_after inside b = if b == backslash then escaped else if b == quote then outside else inside
place_after escaped b = inside
place_after in_number b = if continues_number b then in_number else place_outside b

-- outside strings an opening quote gets its mark, and a number its quote and its mark
abbrev pub marked_outside : ℕ → List ℕ
marked_outside b =
    if b == quote then quote ∷ text_mark ∷ []
    else if begins_number b then quote ∷ number_mark ∷ b ∷ []
    else b ∷ []

-- the bytes written for a byte; before the first byte after a number they have its closing quote
abbrev pub marked_byte : Place → ℕ → List ℕ
marked_byte outside b = marked_outside b
marked_byte inside b = b ∷ []
marked_byte escaped b = b ∷ []
marked_byte in_number b = if continues_number b then b ∷ [] else quote ∷ marked_outside b

-- the bytes written at the end of the text
abbrev pub marked_end : Place → List ℕ
marked_end outside = []
marked_end inside = []
marked_end escaped = []
marked_end in_number = quote ∷ []

abbrev pub marked_from : Place → List ℕ → List ℕ
marked_from place [] = marked_end place
marked_from place (b ∷ bs) = marked_byte place b ++ marked_from (place_after place b) bs

abbrev pub marked_text : List ℕ → List ℕ
marked_text text = marked_from outside text
