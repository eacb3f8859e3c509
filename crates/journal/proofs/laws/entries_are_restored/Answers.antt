-- By induction over the entries.
use Rattle.journal.proofs.AccountLemmas.{led}
use Rattle.journal.proofs.laws.entries_are_restored.Goals as goal

pub returns : goal.returns
returns c = led c.noted_runs_are_restored.ensures
