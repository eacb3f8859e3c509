-- By induction over the history.
use Rattle.journal.proofs.ForgettingLemmas.{forgetting}
use Rattle.journal.proofs.forgetting.requests_can_be_left_out.Goals as goal

pub returns : goal.returns
returns c = forgetting
