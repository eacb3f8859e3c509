-- By cases on the step.
use Rattle.site_core.specs.Theory.Steps.{only_events_want_memory}
use Rattle.site_core.proofs.StepLemmas.{replies_are_their_steps}
use Rattle.site_core.proofs.headline.replies_are_their_steps.Goals as goal

pub returns-clause-own : goal.returns-clause-own
returns-clause-own c = replies_are_their_steps

pub returns-clause-memory : goal.returns-clause-memory
returns-clause-memory c = only_events_want_memory
