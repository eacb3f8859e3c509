-- By the effect of each step.
use Rattle.site_core.proofs.StepLemmas.{does, no_event_no_change}
use Rattle.site_core.proofs.headline.only_events_change_the_state.Goals as goal

pub returns : goal.returns
returns c = λ old new step reply made no_event.
    no_event_no_change old step (record { reply = reply; after = new })
    (does old step reply new made) no_event
