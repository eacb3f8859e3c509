-- The fields of an object: the value at a field's name, or its fault (OCPP-J 1.6, 4.2.3, for the
-- three faults).
use Rattle.std.specs.Prelude.{ℕ, ℤ, pos, negsuc, nat_le, List, length, Option, Some, None, Result, Ok, Err, if◌then◌else◌}
use Rattle.std.specs.Str.{chars}
use Rattle.ocpp_scalars.specs.Limits.{max_id_tag_characters}
use Rattle.ocppj_frame.specs.declared.field.Field.{Field}
use Rattle.ocppj_frame.specs.declared.field.Field.TheVariants.{Absent, WrongKind, WrongValue, Value}
use Rattle.ocppj_frame.specs.Tree.{Tree, is_object}
use Rattle.ocppj_frame.specs.Field.{text_field_of, whole_field_of, tenths_field_of, instant_field_of, list_field_of, object_field_of}
use Rattle.messages.specs.declared.field_name.FieldName.{FieldName}
use Rattle.messages.specs.declared.fields.NamedField.{NamedField}
use Rattle.messages.specs.declared.call_fault.CallFault.{CallFault}
use Rattle.messages.specs.declared.call_fault.CallFault.TheVariants.{OccurenceConstraintViolation, TypeConstraintViolation, PropertyConstraintViolation}
use Rattle.messages.specs.FieldName.{field_name}

-- the value of a required field, or its fault
abbrev pub required_value : {A : Type 0} → FieldName → Field A → Result A CallFault
required_value name Absent = Err (OccurenceConstraintViolation name)
required_value name WrongKind = Err (TypeConstraintViolation name)
required_value name WrongValue = Err (PropertyConstraintViolation name)
required_value name (Value x) = Ok x

-- the value of an optional field, or its fault
abbrev pub optional_value : {A : Type 0} → FieldName → Field A → Result (Option A) CallFault
optional_value name Absent = Ok None
optional_value name WrongKind = Err (TypeConstraintViolation name)
optional_value name WrongValue = Err (PropertyConstraintViolation name)
optional_value name (Value x) = Ok (Some x)

unfoldable pub required : {A : Type 0} → NamedField A → Result A CallFault
required read = required_value read.name read.field

unfoldable pub optional : {A : Type 0} → NamedField A → Result (Option A) CallFault
optional read = optional_value read.name read.field

-- a whole number of 32 bits
unfoldable pub whole : Tree → FieldName → NamedField ℤ
whole fields name = record { name = name; field = whole_field_of (field_name name) fields }

-- a whole number below 0 is a wrong value
abbrev pub from_zero : Field ℤ → Field ℕ
from_zero Absent = Absent
from_zero WrongKind = WrongKind
from_zero WrongValue = WrongValue
from_zero (Value (pos n)) = Value n
from_zero (Value (negsuc n)) = WrongValue

unfoldable pub whole_from_zero : Tree → FieldName → NamedField ℕ
whole_from_zero fields name =
    record { name = name; field = from_zero (whole_field_of (field_name name) fields) }

-- tenths of A or W
unfoldable pub tenths : Tree → FieldName → NamedField ℕ
tenths fields name = record { name = name; field = tenths_field_of (field_name name) fields }

unfoldable pub instant : Tree → FieldName → NamedField ℕ
instant fields name = record { name = name; field = instant_field_of (field_name name) fields }

-- a text that isn't such a name is a wrong value
abbrev pub value_or_wrong : {A : Type 0} → Option A → Field A
value_or_wrong None = WrongValue
value_or_wrong (Some x) = Value x

abbrev pub one_of : {A : Type 0} → (List ℕ → Option A) → Field (List ℕ) → Field A
one_of named Absent = Absent
one_of named WrongKind = WrongKind
one_of named WrongValue = WrongValue
one_of named (Value text) = value_or_wrong (named text)

-- a text that names one of a few values
unfoldable pub one_name_of : {A : Type 0} → (List ℕ → Option A) → Tree → FieldName → NamedField A
one_name_of named fields name =
    record { name = name; field = one_of named (text_field_of (field_name name) fields) }

unfoldable pub list : Tree → FieldName → NamedField (List Tree)
list fields name = record { name = name; field = list_field_of (field_name name) fields }

unfoldable pub object : Tree → FieldName → NamedField Tree
object fields name = record { name = name; field = object_field_of (field_name name) fields }

-- an entry of a list, which must be an object
abbrev pub as_object : FieldName → Tree → Result Tree CallFault
as_object name entry = if is_object entry then Ok entry else Err (TypeConstraintViolation name)

unfoldable pub text : Tree → FieldName → NamedField (List ℕ)
text fields name = record { name = name; field = text_field_of (field_name name) fields }

-- an idTag is a text of at most a given number of characters (chapter 7, IdToken)
abbrev pub as_id_tag : FieldName → List ℕ → Result (List ℕ) CallFault
as_id_tag name tag =
    if nat_le (length (chars tag)) max_id_tag_characters then Ok tag
    else Err (PropertyConstraintViolation name)
