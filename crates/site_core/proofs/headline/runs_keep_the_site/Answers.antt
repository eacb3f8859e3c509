-- By the steps of the run.
use Rattle.site_core.proofs.SiteOfRuns.{runs_site}
use Rattle.site_core.proofs.headline.runs_keep_the_site.Goals as goal

pub returns : goal.returns
returns c = λ old new steps outcomes runs. runs_site old new steps outcomes runs
