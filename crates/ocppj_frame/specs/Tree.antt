-- A JSON text (RFC 8259) as a tree. A number keeps its text, so that its value stays exact.
use Rattle.std.specs.Prelude.{ℕ, List, [], ◌∷◌, Bool, true, false, Option, Some, None, if◌then◌else◌}
use Rattle.std.specs.Str.{bytes_eq}

mutual
  pub data Tree : Type 0 where
    null : Tree
    boolean : Bool → Tree
    text : List ℕ → Tree
    number : List ℕ → Tree
    list : Trees → Tree
    object : Fields → Tree

  pub data Trees : Type 0 where
    no_entries : Trees
    entry : Tree → Trees → Trees

  -- each name occurs once
  pub data Fields : Type 0 where
    no_fields : Fields
    field : List ℕ → Tree → Fields → Fields

-- a list's entries, in order
abbrev pub entries : Trees → List Tree
entries no_entries = []
entries (entry t ts) = t ∷ entries ts

abbrev pub field_at : List ℕ → Fields → Option Tree
field_at name no_fields = None
field_at name (field other t fs) = if bytes_eq other name then Some t else field_at name fs

-- the field of an object; anything else has no fields
abbrev pub field_of : List ℕ → Tree → Option Tree
field_of name null = None
field_of name (boolean b) = None
field_of name (text bytes) = None
field_of name (number bytes) = None
field_of name (list ts) = None
field_of name (object fs) = field_at name fs

abbrev pub is_object : Tree → Bool
is_object null = false
is_object (boolean b) = false
is_object (text bytes) = false
is_object (number bytes) = false
is_object (list ts) = false
is_object (object fs) = true

abbrev pub is_null : Tree → Bool
is_null null = true
is_null (boolean b) = false
is_null (text bytes) = false
is_null (number bytes) = false
is_null (list ts) = false
is_null (object fs) = false

abbrev pub as_text : Tree → Option (List ℕ)
as_text null = None
as_text (boolean b) = None
as_text (text bytes) = Some bytes
as_text (number bytes) = None
as_text (list ts) = None
as_text (object fs) = None

abbrev pub as_number : Tree → Option (List ℕ)
as_number null = None
as_number (boolean b) = None
as_number (text bytes) = None
as_number (number bytes) = Some bytes
as_number (list ts) = None
as_number (object fs) = None

abbrev pub as_list : Tree → Option (List Tree)
as_list null = None
as_list (boolean b) = None
as_list (text bytes) = None
as_list (number bytes) = None
as_list (list ts) = Some (entries ts)
as_list (object fs) = None

abbrev pub as_object : Tree → Option Tree
as_object null = None
as_object (boolean b) = None
as_object (text bytes) = None
as_object (number bytes) = None
as_object (list ts) = None
as_object (object fs) = Some (object fs)
