-- The tree of a text: the marked text as `serde_json` reads it, with the marks removed. Of members
-- with one name `serde_json` keeps the last. Earlier values are never checked: only those kept have
-- to be trees.
use Rattle.std.specs.Prelude.{ℕ, List, Option, Some, None, option_map, if◌then◌else◌}
use Rattle.ocpp_scalars.specs.ByCases.NumberText.{is_number_text}
use Rattle.ocpp_scalars.specs.OptionSteps.{◌>>=◌}
use Rattle.serde_json.specs.Data as json
use Rattle.serde_json.specs.Read.{read}
use Rattle.ocppj_frame.specs.Mark.{after_mark, text_mark, number_mark}
use Rattle.ocppj_frame.specs.ByCases.Mark.{marked_text}
use Rattle.ocppj_frame.specs.Tree.{Tree, null, boolean, text, number, list, object, Trees, no_entries, entry, Fields, no_fields, field}

-- a string with the mark `s` is a text; one with the mark `n` is a number if it has RFC 8259's
-- grammar
abbrev pub tree_of_marked : Option (List ℕ) → Option (List ℕ) → Option Tree
tree_of_marked (Some bytes) as_number = Some (text bytes)
tree_of_marked None (Some bytes) = if is_number_text bytes then Some (number bytes) else None
tree_of_marked None None = None

abbrev pub tree_of_string : List ℕ → Option Tree
tree_of_string bytes = tree_of_marked (after_mark text_mark bytes) (after_mark number_mark bytes)

-- a key is a text
abbrev pub name_of_key : List ℕ → Option (List ℕ)
name_of_key bytes = after_mark text_mark bytes

-- a marked text has no numbers
abbrev mutual
  pub tree_of : json.Data → Option Tree
  tree_of json.null = Some null
  tree_of (json.boolean b) = Some (boolean b)
  tree_of (json.number n) = None
  tree_of (json.string bytes) = tree_of_string bytes
  tree_of (json.array items) = option_map list (trees_of items)
  tree_of (json.object members) = option_map object (fields_of members)

  pub trees_of : json.Items → Option Trees
  trees_of json.no_items = Some no_entries
  trees_of (json.item d ds) = do
    first ← tree_of d
    others ← trees_of ds
    Some (entry first others)

  pub fields_of : json.Members → Option Fields
  fields_of json.no_members = Some no_fields
  fields_of (json.member key d ms) = do
    name ← name_of_key key
    value ← tree_of d
    others ← fields_of ms
    Some (field name value others)

-- the tree of a text, or `None` if the text is refused
abbrev pub tree_of_text : List ℕ → Option Tree
tree_of_text bytes = do
  value ← read (marked_text bytes)
  tree_of value
