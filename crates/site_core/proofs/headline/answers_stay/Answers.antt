-- By the steps of the history.
use Rattle.site_core.proofs.KeptRequests.{stays}
use Rattle.site_core.proofs.headline.answers_stay.Goals as goal

pub returns : goal.returns
returns c = λ old new events number kept answer legal found has. stays old new events number kept answer legal found has
