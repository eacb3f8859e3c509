-- The parts of a tree are trees.
use Rattle.std.proofs.Common.{◌≡◌, ℕ, zero, suc, ◌<◌, ◌≤◌, slice_get, List, [], ◌∷◌, length, get_or, map, Bool, true, false, cond, Option, Some, None, option_map, is_some, unwrap_or, refl, sym, ap, ◌∙◌, subst, Bor, BTreeMap, arith}
use Rattle.std.specs.Option.{option_map_or, option_and_then}
use Rattle.std.specs.Str.{bytes_eq}
use Rattle.serde_json.specs.Data as json
use Rattle.ocpp_scalars.specs.OptionSteps.{◌>>=◌}
use Rattle.ocppj_frame.specs.ByCases.Member.{is_key_of, member_named}
use Rattle.ocppj_frame.specs.Payload.{value_tree}
use Rattle.ocppj_frame.specs.Tree.{Tree, null, list, object, Trees, no_entries, entry, entries, Fields, field, field_at, field_of, as_list}
use Rattle.ocppj_frame.specs.Read.{tree_of, trees_of, fields_of, name_of_key}
use Rattle.ocppj_frame.specs.View.{view, items_view, members_view}
use Rattle.ocppj_frame.specs.declared.marked_value.MarkedValue.{MarkedValue, Array, Object}
use Rattle.ocppj_frame.proofs.Views.{Values, view-Array, view-Object}

-- a list's first entry and the others
abbrev entries_step : Option Tree → Option Trees → Option Trees
entries_step first others = do
  t ← first
  ts ← others
  Some (entry t ts)

first_entry : (o : Option Tree) (p : Option Trees) → is_some (entries_step o p) ≡ true → is_some o ≡ true
first_entry None p h = h
first_entry (Some t) p h = refl

other_entries : (o : Option Tree) (p : Option Trees) → is_some (entries_step o p) ≡ true → is_some p ≡ true
other_entries None p h = cc
other_entries (Some t) None h = h
other_entries (Some t) (Some ts) h = refl

entries_stepped : (o : Option Tree) (p : Option Trees) (others : List Tree) → entries (unwrap_or p no_entries) ≡ others → is_some (entries_step o p) ≡ true
    → entries (unwrap_or (entries_step o p) no_entries) ≡ unwrap_or o null ∷ others
entries_stepped None p others e h = cc
entries_stepped (Some t) None others e h = cc
entries_stepped (Some t) (Some ts) others e h = ap (λ (l : List Tree). t ∷ l) e

pub entries-trees_of : (vs : List MarkedValue) → is_some (trees_of (items_view vs)) ≡ true → entries (unwrap_or (trees_of (items_view vs)) no_entries) ≡ map value_tree vs
entries-trees_of [] h = refl
entries-trees_of (v ∷ vs) h = entries_stepped (tree_of (view v)) (trees_of (items_view vs)) (map value_tree vs) (entries-trees_of vs (other_entries (tree_of (view v)) (trees_of (items_view vs)) h)) h

pub first_is_tree : (v : MarkedValue) (vs : List MarkedValue) → is_some (trees_of (items_view (v ∷ vs))) ≡ true → is_some (tree_of (view v)) ≡ true
first_is_tree v vs h = first_entry (tree_of (view v)) (trees_of (items_view vs)) h

pub others_are_trees : (v : MarkedValue) (vs : List MarkedValue) → is_some (trees_of (items_view (v ∷ vs))) ≡ true → is_some (trees_of (items_view vs)) ≡ true
others_are_trees v vs h = other_entries (tree_of (view v)) (trees_of (items_view vs)) h

pub entry_is_tree : (vs : List MarkedValue) (i : ℕ) (d : MarkedValue) → is_some (trees_of (items_view vs)) ≡ true → i < length vs → is_some (tree_of (view (get_or vs i d))) ≡ true
entry_is_tree [] i d h l = absurd (omega arith)
entry_is_tree (v ∷ vs) zero d h l = first_is_tree v vs h
entry_is_tree (v ∷ vs) (suc i) d h l = entry_is_tree vs i d (others_are_trees v vs h) (omega arith)

-- the tree of data whose strings are marked
abbrev pub data_tree : json.Data → Tree
data_tree d = unwrap_or (tree_of d) null

pub list_entries : (p : Option Trees) → is_some p ≡ true → unwrap_or (option_map list p) null ≡ list (unwrap_or p no_entries)
list_entries None h = cc
list_entries (Some ts) h = refl

-- an object's members
abbrev fields_step : Option (List ℕ) → Option Tree → Option Fields → Option Fields
fields_step name tree others = do
  n ← name
  t ← tree
  fs ← others
  Some (field n t fs)

name_stands : (name : Option (List ℕ)) (tree : Option Tree) (others : Option Fields) → is_some (fields_step name tree others) ≡ true → is_some name ≡ true
name_stands None tree others h = h
name_stands (Some n) tree others h = refl

tree_stands : (name : Option (List ℕ)) (tree : Option Tree) (others : Option Fields) → is_some (fields_step name tree others) ≡ true → is_some tree ≡ true
tree_stands None tree others h = cc
tree_stands (Some n) None others h = h
tree_stands (Some n) (Some t) others h = refl

others_stand : (name : Option (List ℕ)) (tree : Option Tree) (others : Option Fields) → is_some (fields_step name tree others) ≡ true → is_some others ≡ true
others_stand None tree others h = cc
others_stand (Some n) None others h = cc
others_stand (Some n) (Some t) None h = h
others_stand (Some n) (Some t) (Some fs) h = refl

-- the field of a name, if there are fields
abbrev found_in : List ℕ → Option Fields → Option Tree
found_in name fields = option_and_then (field_at name) fields

field_step : (name : List ℕ) (key : Option (List ℕ)) (tree : Option Tree) (others : Option Fields) (found : Option json.Data) (d : json.Data)
    → tree_of d ≡ tree → option_map data_tree found ≡ found_in name others → is_some (fields_step key tree others) ≡ true
    → option_map data_tree (cond (option_map_or (λ other. bytes_eq other name) key false) (Some d) found) ≡ found_in name (fields_step key tree others)
field_step name None tree others found d e more h = cc
field_step name (Some n) None others found d e more h = cc
field_step name (Some n) (Some t) None found d e more h = cc
field_step name (Some n) (Some t) (Some fs) found d e more h = either (bytes_eq n name)
  where
    either : (test : Bool) → option_map data_tree (cond test (Some d) found) ≡ cond test (Some t) (field_at name fs)
    either true = ap (λ o. Some (unwrap_or o null)) e
    either false = more

pub member_field : (name : List ℕ) (ms : json.Members) → is_some (fields_of ms) ≡ true → option_map data_tree (member_named name ms) ≡ found_in name (fields_of ms)
member_field name json.no_members h = refl
member_field name (json.member key d ms) h = field_step name (name_of_key key) (tree_of d) (fields_of ms) (member_named name ms) d refl
    (member_field name ms (others_stand (name_of_key key) (tree_of d) (fields_of ms) h)) h

member_step : (test : Bool) (d : json.Data) (found : Option json.Data) (e : json.Data) → is_some (tree_of d) ≡ true → (found ≡ Some e → is_some (tree_of e) ≡ true) → cond test (Some d) found ≡ Some e → is_some (tree_of e) ≡ true
member_step true d found e h more same = let one : d ≡ e = cc in subst (λ (x : json.Data). is_some (tree_of x) ≡ true) one h
member_step false d found e h more same = more same

pub member_is_tree : (name : List ℕ) (ms : json.Members) (e : json.Data) → is_some (fields_of ms) ≡ true → member_named name ms ≡ Some e → is_some (tree_of e) ≡ true
member_is_tree name json.no_members e h same = cc
member_is_tree name (json.member key d ms) e h same = member_step (is_key_of name key) d (member_named name ms) e (tree_stands (name_of_key key) (tree_of d) (fields_of ms) h)
    (member_is_tree name ms e (others_stand (name_of_key key) (tree_of d) (fields_of ms) h)) same

fields_within : (name : List ℕ) (p : Option Fields) → is_some (option_map object p) ≡ true → found_in name p ≡ field_of name (unwrap_or (option_map object p) null)
fields_within name None h = cc
fields_within name (Some fs) h = refl

pub are_fields : (p : Option Fields) → is_some (option_map object p) ≡ true → is_some p ≡ true
are_fields None h = h
are_fields (Some fs) h = refl

pub are_trees : (p : Option Trees) → is_some (option_map list p) ≡ true → is_some p ≡ true
are_trees None h = h
are_trees (Some ts) h = refl

-- the field of an object is the tree of its member
pub member-field_of : (name : List ℕ) (ms : json.Members) → is_some (tree_of (json.object ms)) ≡ true → option_map data_tree (member_named name ms) ≡ field_of name (data_tree (json.object ms))
member-field_of name ms h = member_field name ms (are_fields (fields_of ms) h) ∙ fields_within name (fields_of ms) h

-- the same for a value
seen_object : (value : MarkedValue) (m : BTreeMap (Bor (List ℕ)) MarkedValue) → value ≡ Object m → view value ≡ json.object (members_view m.entries)
seen_object value m same = ap view same ∙ view-Object m

seen_array : (value : MarkedValue) (v : Values) → value ≡ Array v → view value ≡ json.array (items_view v.items)
seen_array value v same = ap view same ∙ view-Array v

pub value_field : (name : List ℕ) (value : MarkedValue) (m : BTreeMap (Bor (List ℕ)) MarkedValue) → value ≡ Object m → is_some (tree_of (view value)) ≡ true
    → option_map data_tree (member_named name (members_view m.entries)) ≡ field_of name (value_tree value)
value_field name value m same h = subst (λ (d : json.Data). option_map data_tree (member_named name (members_view m.entries)) ≡ field_of name (data_tree d)) (sym (seen_object value m same))
    (member-field_of name (members_view m.entries) (subst (λ (d : json.Data). is_some (tree_of d) ≡ true) (seen_object value m same) h))

pub value_member : (name : List ℕ) (value : MarkedValue) (m : BTreeMap (Bor (List ℕ)) MarkedValue) (e : json.Data) → value ≡ Object m → is_some (tree_of (view value)) ≡ true
    → Some e ≡ member_named name (members_view m.entries) → is_some (tree_of e) ≡ true
value_member name value m e same h found = member_is_tree name (members_view m.entries) e
    (are_fields _ (subst (λ (d : json.Data). is_some (tree_of d) ≡ true) (seen_object value m same) h)) (sym found)

pub value_list : (value : MarkedValue) (v : Values) → value ≡ Array v → is_some (tree_of (view value)) ≡ true → Some (map value_tree v.items) ≡ as_list (value_tree value)
value_list value v same h =
    let items : is_some (trees_of (items_view v.items)) ≡ true = are_trees _ (subst (λ (d : json.Data). is_some (tree_of d) ≡ true) (seen_array value v same) h) in
    subst (λ (d : json.Data). Some (map value_tree v.items) ≡ as_list (data_tree d)) (sym (seen_array value v same))
    (rw (list_entries (trees_of (items_view v.items)) items) (ap Some (sym (entries-trees_of v.items items))))

pub entry_tree : (vs : List MarkedValue) (i : ℕ) (d : MarkedValue) → i < length vs → Some (value_tree (get_or vs i d)) ≡ slice_get (map value_tree vs) i
entry_tree [] i d l = absurd (omega arith)
entry_tree (v ∷ vs) zero d l = refl
entry_tree (v ∷ vs) (suc i) d l = entry_tree vs i d (omega arith)

pub entry_past : (vs : List MarkedValue) (i : ℕ) → length vs ≤ i → None ≡ slice_get (map value_tree vs) i
entry_past [] i l = refl
entry_past (v ∷ vs) zero l = absurd (omega arith)
entry_past (v ∷ vs) (suc i) l = entry_past vs i (omega arith)
