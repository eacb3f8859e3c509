-- By the steps of the history: no request is kept at the opening.
use Rattle.std.proofs.lemmas.List.Elements.{All-from_recursion}
use Rattle.site_core.specs.State.{opening_at}
use Rattle.site_core.specs.History.{IsAnswered}
use Rattle.site_core.proofs.KeptRequests.{all_answered_after}
use Rattle.site_core.proofs.headline.stopped_requests_are_answered.Goals as goal

pub returns : goal.returns
returns c = λ site numbers events state legal stopped.
    All-from_recursion IsAnswered state.requests (all_answered_after (opening_at site numbers) events state (λ _. tt) legal stopped)
