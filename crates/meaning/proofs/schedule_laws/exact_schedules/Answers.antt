-- Exact periods are the computed ones, and are too many exactly if those are.
use Rattle.meaning.specs.Theory.ExactPeriods.{exact_is, exact_are}
use Rattle.meaning.specs.Theory.ExactAnswers.{answered}
use Rattle.meaning.proofs.Compiling.{computed, refused, too_long-is}
use Rattle.meaning.proofs.schedule_laws.exact_schedules.Goals as goal

pub returns-clause-periods : goal.returns-clause-periods
returns-clause-periods c = λ limit duration periods some. (exact_is limit duration periods, λ same. rw same (exact_are limit duration some))

pub returns-clause-answer : goal.returns-clause-answer
returns-clause-answer c = λ limit duration schedule some. (computed limit duration schedule, answered limit duration schedule some)

pub returns-clause-too_long : goal.returns-clause-too_long
returns-clause-too_long c = λ limit duration some. (refused limit duration some, too_long-is limit duration)
