-- The computed periods are exact.
use Rattle.meaning.specs.Limit.{limit_asked}
use Rattle.meaning.specs.Theory.ExactPeriods.{exact_are}
use Rattle.meaning.proofs.schedule_laws.exact_schedule_exists.Goals as goal

pub returns : goal.returns
returns c = λ state connector start duration some. exact_are (limit_asked state connector start) duration some
