-- By induction over the entries.
use Rattle.journal.proofs.SurvivalLemmas.{survives, survives_calls}
use Rattle.journal.proofs.laws.answered_survives.Goals as goal

pub returns-clause-between : goal.returns-clause-between
returns-clause-between c = survives c.noted_runs_are_restored.ensures

pub returns-clause-calls : goal.returns-clause-calls
returns-clause-calls c = survives_calls c.noted_runs_are_restored.ensures
