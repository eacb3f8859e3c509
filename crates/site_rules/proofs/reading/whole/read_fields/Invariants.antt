use Rattle.std.proofs.Common.{◌≤◌, length}
use Rattle.ocppj_frame.specs.Tree.{Fields}
use Rattle.site_rules.specs.ByCases.Parts.{AreSiteFields}
use Rattle.site_rules.proofs.TokenTrees.{ObjectSoFar}
use Rattle.site_rules.proofs.reading.whole.read_fields.Given as goal

abbrev pub invariant-members : goal.invariant-members
invariant-members l =
    (fields : Fields) × ObjectSoFar l.fn.depth l.initial.reader l.reader fields × (length l.reader ≤ length l.initial.reader)
    × AreSiteFields l.site fields

abbrev pub decreases-members : goal.decreases-members
decreases-members l = length l.reader
