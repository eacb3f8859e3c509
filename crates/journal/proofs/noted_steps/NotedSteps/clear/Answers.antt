-- No step is left.
use Rattle.journal.proofs.AccountLemmas.{none_noted}
use Rattle.journal.proofs.noted_steps.NotedSteps.clear.Goals as goal

pub invariant_of-self : goal.invariant_of-self
invariant_of-self g c =
    none_noted c.copy.result c.self.inside.last c.clear.new.self.items c.copy.ensures
    c.clear.ensures.items
