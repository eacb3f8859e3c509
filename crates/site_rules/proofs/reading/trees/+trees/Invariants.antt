use Rattle.std.proofs.Common.{◌+◌, ◌*◌, ◌≤◌, length}
use Rattle.ocppj_frame.specs.ByCases.Tokens.{HaveNoNumber}
use Rattle.site_rules.proofs.MarkedTrees.{ItemsSoFar, MembersSoFar}
use Rattle.site_rules.proofs.reading.trees.+trees.Given as goal

abbrev pub decreases-value_has_tree : goal.decreases-value_has_tree
decreases-value_has_tree l = 2 * l.depth

abbrev pub decreases-items_have_trees : goal.decreases-items_have_trees
decreases-items_have_trees l = 2 * l.depth + 1

abbrev pub decreases-members_have_trees : goal.decreases-members_have_trees
decreases-members_have_trees l = 2 * l.depth + 1

abbrev pub invariant-items_have_trees-items : goal.invariant-items_have_trees-items
invariant-items_have_trees-items l = ItemsSoFar l.depth l.initial.reader l.reader l.have × (length l.reader ≤ length l.initial.reader) × HaveNoNumber l.reader

abbrev pub decreases-items_have_trees-items : goal.decreases-items_have_trees-items
decreases-items_have_trees-items l = length l.reader

abbrev pub invariant-members_have_trees-members : goal.invariant-members_have_trees-members
invariant-members_have_trees-members l = MembersSoFar l.depth l.initial.reader l.reader l.broken × (length l.reader ≤ length l.initial.reader) × HaveNoNumber l.reader

abbrev pub decreases-members_have_trees-members : goal.decreases-members_have_trees-members
decreases-members_have_trees-members l = length l.reader
