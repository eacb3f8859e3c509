-- The law is proved in `VerdictCases`.
use Rattle.sweep_compiler.proofs.VerdictCases.{verdict_law}
use Rattle.sweep_compiler.proofs.verdict_laws.verdicts_are_computed.Goals as goal

pub returns : goal.returns
returns c = verdict_law c.exact_schedules.ensures.answer c.said_schedules.ensures
