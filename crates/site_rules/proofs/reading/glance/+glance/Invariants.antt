use Rattle.std.proofs.Common.{◌+◌, ◌*◌, ◌≤◌, List, length}
use Rattle.ocppj_frame.specs.Tree.{Tree, Fields}
use Rattle.site_rules.proofs.TokenTrees.{ListSoFar, ObjectSoFar}
use Rattle.site_rules.proofs.reading.glance.+glance.Given as goal

abbrev pub decreases-glance_from : goal.decreases-glance_from
decreases-glance_from l = 3 * l.depth

abbrev pub decreases-read_glance : goal.decreases-read_glance
decreases-read_glance l = 3 * l.depth + 1

abbrev pub decreases-pass_items : goal.decreases-pass_items
decreases-pass_items l = 3 * l.depth + 2

abbrev pub decreases-pass_members : goal.decreases-pass_members
decreases-pass_members l = 3 * l.depth + 2

abbrev pub invariant-pass_items-items : goal.invariant-pass_items-items
invariant-pass_items-items l = (done : List Tree) × ListSoFar l.depth l.initial.reader l.reader done × (length l.reader ≤ length l.initial.reader)

abbrev pub decreases-pass_items-items : goal.decreases-pass_items-items
decreases-pass_items-items l = length l.reader

abbrev pub invariant-pass_members-members : goal.invariant-pass_members-members
invariant-pass_members-members l = (fields : Fields) × ObjectSoFar l.depth l.initial.reader l.reader fields × (length l.reader ≤ length l.initial.reader)

abbrev pub decreases-pass_members-members : goal.decreases-pass_members-members
decreases-pass_members-members l = length l.reader
