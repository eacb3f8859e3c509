use Rattle.std.proofs.Common.{◌≡◌, ◌≤◌, List, [], length, Some, option_map}
use Rattle.ocppj_frame.specs.Tree.{Tree}
use Rattle.site_rules.specs.ByCases.Parts.{HasFewCeilings, with_ceilings}
use Rattle.site_rules.proofs.TokenTrees.{ListSoFar}
use Rattle.site_rules.proofs.reading.connectors.read_ceilings.Given as goal

abbrev pub invariant-entries : goal.invariant-entries
invariant-entries l =
    (done : List Tree) × ListSoFar l.fn.depth l.initial.reader l.reader done × (length l.reader ≤ length l.initial.reader)
    × (option_map (λ ceilings. ceilings.items) l.kept ≡ with_ceilings (Some []) done) × HasFewCeilings l.kept

abbrev pub decreases-entries : goal.decreases-entries
decreases-entries l = length l.reader
