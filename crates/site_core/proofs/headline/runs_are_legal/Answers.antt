-- By the steps of the run.
use Rattle.site_core.proofs.HistoryLemmas.{runs_legal}
use Rattle.site_core.proofs.headline.runs_are_legal.Goals as goal

pub returns : goal.returns
returns c = λ old new steps outcomes runs. runs_legal old new steps outcomes runs
