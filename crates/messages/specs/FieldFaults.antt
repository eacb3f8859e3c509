-- The faults of fields, by the tables of fields in `ActionKind` and `FieldRow` (OCPP 1.6, chapters
-- 6 and 7). By the law `first_faults` an action is read exactly if no field of its table has a
-- fault, and otherwise its fault is the first. So the tables define the reading.
use Rattle.std.specs.Prelude.{◌≡◌, ℕ, zero, suc, Bool, true, false, List, [], ◌∷◌, ◌++◌, Option, Some, None}
use Rattle.std.specs.List.{AllByRecursion, flat_map}
use Rattle.std.specs.Result.{result_err}
use Rattle.ocppj_frame.specs.declared.field.Field.{Field}
use Rattle.ocppj_frame.specs.declared.field.Field.TheVariants.{Value}
use Rattle.ocppj_frame.specs.Tree.{Tree}
use Rattle.profile.specs.Names.{purpose_named, kind_named, recurrency_named, unit_named}
use Rattle.messages.specs.declared.action_kind.ActionKind.{ActionKind}
use Rattle.messages.specs.declared.field_name.FieldName.{FieldName}
use Rattle.messages.specs.declared.field_row.FieldKind.{FieldKind}
use Rattle.messages.specs.declared.field_row.FieldKind.TheVariants.{Whole, WholeFromZero, Tenths, Time, IdToken, PurposeName, KindName, RecurrencyName, UnitName, Object, Objects}
use Rattle.messages.specs.declared.field_row.ObjectKind.{ObjectKind}
use Rattle.messages.specs.declared.field_row.FieldRow.{FieldRow}
use Rattle.messages.specs.declared.field_row.FieldRow.TheVariants.{Required, Optional}
use Rattle.messages.specs.declared.fields.NamedField.{NamedField}
use Rattle.messages.specs.declared.call_fault.CallFault.{CallFault}
use Rattle.messages.specs.declared.call_fault.CallFault.TheVariants.{OccurenceConstraintViolation}
use Rattle.messages.specs.ActionKind.{fields_of}
use Rattle.messages.specs.FieldRow.{fields_in}
use Rattle.messages.specs.Fields.{required, optional, whole, whole_from_zero, tenths, instant, one_name_of, list, object, text, as_object, as_id_tag}

-- The fields of an object in the order of the checks, each with its fault, if any.
abbrev pub Checked : Type 0
Checked = List (Option CallFault)

-- ---- a field

-- The fault of a required or an optional field.
abbrev pub fault_of : {A : Type 0} → Bool → NamedField A → Option CallFault
fault_of true field = result_err (required field)
fault_of false field = result_err (optional field)

abbrev pub own_fault : Bool → FieldKind → Tree → FieldName → Option CallFault
own_fault must Whole fields name = fault_of must (whole fields name)
own_fault must WholeFromZero fields name = fault_of must (whole_from_zero fields name)
own_fault must Tenths fields name = fault_of must (tenths fields name)
own_fault must Time fields name = fault_of must (instant fields name)
own_fault must IdToken fields name = fault_of must (text fields name)
own_fault must PurposeName fields name = fault_of must (one_name_of purpose_named fields name)
own_fault must KindName fields name = fault_of must (one_name_of kind_named fields name)
own_fault must RecurrencyName fields name =
    fault_of must (one_name_of recurrency_named fields name)
own_fault must UnitName fields name = fault_of must (one_name_of unit_named fields name)
own_fault must (Object kind) fields name = fault_of must (object fields name)
own_fault must (Objects kind) fields name = fault_of must (list fields name)

-- ---- the contents of a field

-- Without a value there is no fault inside.
abbrev pub faults_of_value : {A : Type 0} → (A → Checked) → Field A → Checked
faults_of_value inner (Value x) = inner x
faults_of_value inner _ = []

abbrev pub id_tag_faults : FieldName → List ℕ → Checked
id_tag_faults name tag = result_err (as_id_tag name tag) ∷ []

-- An entry of a list must be an object.
abbrev pub entry_faults : (Tree → Checked) → FieldName → Tree → Checked
entry_faults inner name entry = result_err (as_object name entry) ∷ inner entry

-- An empty list counts as absent.
abbrev pub empty_fault : FieldName → List Tree → Option CallFault
empty_fault name [] = Some (OccurenceConstraintViolation name)
empty_fault name (entry ∷ entries) = None

abbrev pub entries_faults : (Tree → Checked) → FieldName → List Tree → Checked
entries_faults inner name entries =
    flat_map (entry_faults inner name) entries ++ (empty_fault name entries ∷ [])

-- The faults inside a field of a kind; `inner` gives those of objects.
abbrev pub inside_faults : (ObjectKind → Tree → Checked) → FieldKind → Tree → FieldName → Checked
inside_faults inner IdToken fields name =
    faults_of_value (id_tag_faults name) (text fields name).field
inside_faults inner (Object kind) fields name =
    faults_of_value (inner kind) (object fields name).field
inside_faults inner (Objects kind) fields name =
    faults_of_value (entries_faults (inner kind) name) (list fields name).field
inside_faults inner kind fields name = []

-- ---- tables of fields

abbrev pub row_faults : (ObjectKind → Tree → Checked) → Tree → FieldRow → Checked
row_faults inner fields (Required name kind) =
    own_fault true kind fields name ∷ inside_faults inner kind fields name
row_faults inner fields (Optional name kind) =
    own_fault false kind fields name ∷ inside_faults inner kind fields name

-- The faults of the fields of a table, down to this depth of nested objects.
abbrev pub faults_down : ℕ → List FieldRow → Tree → Checked
faults_down zero rows fields = []
faults_down (suc depth) rows fields =
    flat_map (row_faults (λ kind inside. faults_down depth (fields_in kind) inside) fields) rows

-- the depth of a payload, its profile, the profile's schedule and the schedule's periods
abbrev pub deepest : ℕ
deepest = 4

abbrev pub field_faults : ActionKind → Tree → Checked
field_faults kind payload = faults_down deepest (fields_of kind) payload

-- ---- the first of them

abbrev pub HaveNoFault : Checked → Type 0
HaveNoFault fields = AllByRecursion (λ field. field ≡ None) fields

-- The fault of a field, if no earlier field has one.
pub record IsFirstFault (fields : Checked) (fault : CallFault) : Type 0 where
  pub before : Checked
  pub after : Checked
  pub stands : fields ≡ before ++ (Some fault ∷ after)
  pub none_before : HaveNoFault before
