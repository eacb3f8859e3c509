-- By induction over the run.
use Rattle.journal.proofs.NotedRunLemmas.{runs}
use Rattle.journal.proofs.noted_run.noted_runs_are_restored.Goals as goal

pub returns : goal.returns
returns c = runs
