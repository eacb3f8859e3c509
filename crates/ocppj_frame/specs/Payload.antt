-- The trees that a payload and its nodes represent.
use Rattle.std.specs.Prelude.{List, map, unwrap_or}
use Rattle.std.specs.Vec.Iter.{into_iter_items}
use Rattle.ocppj_frame.specs.Tree.{Tree, null}
use Rattle.ocppj_frame.specs.Read.{tree_of}
use Rattle.ocppj_frame.specs.View.{view}
use Rattle.ocppj_frame.specs.declared.marked_value.MarkedValue.{MarkedValue}
use Rattle.ocppj_frame.specs.declared.payload.Payload.{Payload}
use Rattle.ocppj_frame.specs.declared.payload.Node.{Node}
use Rattle.ocppj_frame.specs.declared.payload.Entries.{Entries}
use Rattle.ocppj_frame.specs.declared.payload.elements.Elements.{Elements}
use Rattle.ocppj_frame.specs.declared.payload.list.EntriesIter.{EntriesIter}

-- the tree of a value whose strings are marked, which is the value of each payload and node
abbrev pub value_tree : MarkedValue → Tree
value_tree value = unwrap_or (tree_of (view value)) null

abbrev pub tree_in : Payload → Tree
tree_in payload = value_tree payload.value

abbrev pub tree_at : Node → Tree
tree_at node = value_tree node.value.now

abbrev pub entries_in : Entries → List Tree
entries_in entries = map value_tree entries.values.now

-- the remaining entries
abbrev pub entries_left : EntriesIter → List Tree
entries_left iter = entries_in iter.left

abbrev pub elements_left : Elements → List Tree
elements_left elements = map value_tree (into_iter_items elements.values)
