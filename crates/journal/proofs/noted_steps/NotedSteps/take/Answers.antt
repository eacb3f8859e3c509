-- No step is left.
use Rattle.journal.proofs.AccountLemmas.{none_noted}
use Rattle.journal.proofs.noted_steps.NotedSteps.take.Goals as goal

pub invariant_of-noted : goal.invariant_of-noted
invariant_of-noted g c =
    none_noted c.copy-3.result c.noted.inside.last c.swap.new.y.items c.copy-3.ensures
    (cc (c.swap.ensures.y_after, c.self.view_is, c.requires))
