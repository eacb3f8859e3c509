-- By the steps of the first run.
use Rattle.site_core.proofs.HistoryLemmas.{runs_append}
use Rattle.site_core.proofs.headline.runs_join.Goals as goal

pub returns : goal.returns
returns c = λ old middle new steps more outcomes others runs then_runs. runs_append old middle new steps more outcomes others runs then_runs
