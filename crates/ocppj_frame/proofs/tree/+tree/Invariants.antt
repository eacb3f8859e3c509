use Rattle.std.proofs.Common.{◌≡◌, is_some, drop}
use Rattle.ocppj_frame.specs.Read.{fields_of, trees_of}
use Rattle.ocppj_frame.specs.View.{items_view, members_view}
use Rattle.ocppj_frame.proofs.tree.+tree.Given as goal

-- the remaining items decide
abbrev pub invariant-are_trees-loop-item : goal.invariant-are_trees-loop-item
invariant-are_trees-loop-item l = is_some (trees_of (items_view (drop l.item-index l.values))) ≡ is_some (trees_of (items_view l.values))

abbrev pub invariant-are_fields-loop-key : goal.invariant-are_fields-loop-key
invariant-are_fields-loop-key l = is_some (fields_of (members_view l.key-iterator)) ≡ is_some (fields_of (members_view l.members.entries))
