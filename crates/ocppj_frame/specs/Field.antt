-- The fields of an object. A field that is null counts as absent.
use Rattle.std.specs.Prelude.{ℕ, ℤ, List, Option, Some, None, Result, Ok, Err, option_and_then, if◌then◌else◌}
use Rattle.std.specs.Option.{option_map_or}
use Rattle.ocpp_scalars.specs.ByCases.Number.{whole_of, tenths_of}
use Rattle.ocpp_scalars.specs.ByCases.InstantText.{instant_of}
use Rattle.ocppj_frame.specs.Tree.{Tree, as_list, as_number, as_object, as_text, field_of, is_null}
use Rattle.ocppj_frame.specs.declared.field.Field.{Field}
use Rattle.ocppj_frame.specs.declared.field.Field.TheVariants.{Absent, WrongKind, WrongValue, Value}

abbrev pub field_map : {A B : Type 0} → (A → B) → Field A → Field B
field_map f Absent = Absent
field_map f WrongKind = WrongKind
field_map f WrongValue = WrongValue
field_map f (Value a) = Value (f a)

-- the field, if it is present and not null
abbrev pub unless_null : Tree → Option Tree
unless_null tree = if is_null tree then None else Some tree

abbrev pub present_field : List ℕ → Tree → Option Tree
present_field name tree = option_and_then unless_null (field_of name tree)

-- a field that must be of one kind
abbrev pub of_kind : {A : Type 0} → (Tree → Option A) → Option Tree → Field A
of_kind kind None = Absent
of_kind kind (Some tree) = option_map_or Value (kind tree) WrongKind

-- the result of reading a scalar
abbrev pub value_or_fault : {A E : Type 0} → Result A E → Field A
value_or_fault (Ok a) = Value a
value_or_fault (Err e) = WrongValue

-- a field that must be of one kind and read as a scalar
abbrev pub of_scalar : {A E : Type 0} → (Tree → Option (List ℕ)) → (List ℕ → Result A E)
    → Option Tree → Field A
of_scalar kind read None = Absent
of_scalar kind read (Some tree) =
    option_map_or (λ bytes. value_or_fault (read bytes)) (kind tree) WrongKind

abbrev pub text_field_of : List ℕ → Tree → Field (List ℕ)
text_field_of name tree = of_kind as_text (present_field name tree)

abbrev pub whole_field_of : List ℕ → Tree → Field ℤ
whole_field_of name tree = of_scalar as_number whole_of (present_field name tree)

abbrev pub tenths_field_of : List ℕ → Tree → Field ℕ
tenths_field_of name tree = of_scalar as_number tenths_of (present_field name tree)

-- an instant is written as a text
abbrev pub instant_field_of : List ℕ → Tree → Field ℕ
instant_field_of name tree = of_scalar as_text instant_of (present_field name tree)

abbrev pub list_field_of : List ℕ → Tree → Field (List Tree)
list_field_of name tree = of_kind as_list (present_field name tree)

abbrev pub object_field_of : List ℕ → Tree → Field Tree
object_field_of name tree = of_kind as_object (present_field name tree)
