-- The texts of JSON lists and objects: without blanks; an object has the fields that are present,
-- in a given order (RFC 8259, sections 4 and 5).
use Rattle.std.specs.Prelude.{ℕ, List, [], ◌∷◌, ◌++◌, Option, option_map, codes}
use Rattle.std.specs.List.{filter_map}
use Rattle.ocpp_scalars.specs.Writing.{instant_text}

-- a JSON string of a text that has no character to escape
abbrev pub string_text : List ℕ → List ℕ
string_text text = codes "\"" ++ text ++ codes "\""

-- an instant as a JSON string
abbrev pub time_text : ℕ → List ℕ
time_text instant = string_text (instant_text instant)

-- each after a comma
abbrev pub later_texts : List (List ℕ) → List ℕ
later_texts [] = []
later_texts (text ∷ texts) = codes "," ++ text ++ later_texts texts

-- with commas between them
abbrev pub joined : List (List ℕ) → List ℕ
joined [] = []
joined (text ∷ texts) = text ++ later_texts texts

abbrev pub list_text : List (List ℕ) → List ℕ
list_text texts = codes "[" ++ joined texts ++ codes "]"

-- a field: its key, and the text of its value
abbrev pub field_text : List ℕ → List ℕ → List ℕ
field_text key value = string_text key ++ codes ":" ++ value

abbrev pub present : List ℕ × Option (List ℕ) → Option (List ℕ)
present field = option_map (field_text field.0) field.1

-- the fields that are present, in this order
unfoldable pub fields_text : List (List ℕ × Option (List ℕ)) → List ℕ
fields_text fields = joined (filter_map present fields)

unfoldable pub object_text : List (List ℕ × Option (List ℕ)) → List ℕ
object_text fields = codes "{" ++ fields_text fields ++ codes "}"
