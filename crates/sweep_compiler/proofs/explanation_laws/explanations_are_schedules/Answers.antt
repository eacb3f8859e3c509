-- The law is proved in `Explaining`.
use Rattle.sweep_compiler.proofs.Explaining.{joined_exact}
use Rattle.sweep_compiler.proofs.explanation_laws.explanations_are_schedules.Goals as goal

pub returns : goal.returns
returns c = joined_exact
