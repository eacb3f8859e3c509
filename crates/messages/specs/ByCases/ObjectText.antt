-- For private clauses: the parts in which an object is written.
use Rattle.std.specs.Prelude.{Bool, true, false, ℕ, List, ◌++◌, Option, codes}
use Rattle.std.specs.List.{filter_map}
use Rattle.messages.specs.ObjectText.{field_text, joined, later_texts, present}

-- the beginning of an object, with its first field
unfoldable pub first_field_text : List ℕ → List ℕ → List ℕ
first_field_text key value = codes "{" ++ field_text key value

-- the fields that are present, each after a comma
unfoldable pub later_fields_text : List (List ℕ × Option (List ℕ)) → List ℕ
later_fields_text fields = later_texts (filter_map present fields)

-- the rest of a list of texts, by whether some of them are written
abbrev pub rest_text : Bool → List (List ℕ) → List ℕ
rest_text false texts = joined texts
rest_text true texts = later_texts texts
