-- No step is noted.
use Rattle.journal.proofs.AccountLemmas.{none_noted}
use Rattle.journal.proofs.noted_steps.NotedSteps.new.Goals as goal

pub invariant_of-result : goal.invariant_of-result
invariant_of-result g c =
    none_noted c.copy.result c.args.states c.in_ok-with_capacity.field-0.items c.copy.ensures
    c.in_ok-with_capacity.ensures.items
