-- No level that was passed over has a candidate.
use Rattle.std.proofs.Common.{◌≡◌}
use Rattle.stacking.specs.ByCases.Candidates.{candidates_left}
use Rattle.stacking.proofs.candidates.CandidatesIterator.next.Given as goal

abbrev pub invariant-loop-self : goal.invariant-loop-self
invariant-loop-self l = candidates_left l.self ≡ candidates_left l.fn.self

abbrev pub decreases-loop-self : goal.decreases-loop-self
decreases-loop-self l = l.self.below
