-- Each line leads to the state of its step.
use Rattle.journal.proofs.NotedLemmas.{changes, confirms, verdicts, links, sends, losses}
use Rattle.journal.proofs.noted_step.noted_steps_are_restored.Goals as goal

pub returns-clause-changes : goal.returns-clause-changes
returns-clause-changes c = changes

pub returns-clause-confirms : goal.returns-clause-confirms
returns-clause-confirms c = confirms

pub returns-clause-verdicts : goal.returns-clause-verdicts
returns-clause-verdicts c = verdicts

pub returns-clause-links : goal.returns-clause-links
returns-clause-links c = links

pub returns-clause-sends : goal.returns-clause-sends
returns-clause-sends c = sends

pub returns-clause-losses : goal.returns-clause-losses
returns-clause-losses c = losses
