-- The taken steps are the next ones.
use Rattle.std.proofs.Common.{◌∙◌}
use Rattle.journal.proofs.written_steps.WrittenSteps.take.Goals as goal

pub invariant_of-self : goal.invariant_of-self
invariant_of-self g c = record {
  lines = c.self.invariant.lines;
  next = c.take.ensures.first ∙ c.self.invariant.next;
  syncs = c.self.invariant.syncs;
  files_are = c.self.invariant.files_are;
  stand = c.self.invariant.stand;
}
