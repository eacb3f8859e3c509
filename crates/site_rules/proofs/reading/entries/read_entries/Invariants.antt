use Rattle.std.proofs.Common.{◌≤◌, List, length}
use Rattle.ocppj_frame.specs.Tree.{Tree}
use Rattle.site_rules.specs.ByCases.Parts.{AreFound}
use Rattle.site_rules.proofs.TokenTrees.{ListSoFar}
use Rattle.site_rules.proofs.reading.entries.read_entries.Given as goal

abbrev pub invariant-entries : goal.invariant-entries
invariant-entries l =
    (done : List Tree) × ListSoFar l.fn.depth l.initial.reader l.reader done × (length l.reader ≤ length l.initial.reader) × AreFound l.found done

abbrev pub decreases-entries : goal.decreases-entries
decreases-entries l = length l.reader
