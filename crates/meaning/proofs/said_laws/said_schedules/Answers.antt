-- The computed test and the definition of a schedule agree, both ways.
use Rattle.meaning.specs.Theory.SaidSchedules.{said_schedule_is, is_said}
use Rattle.meaning.proofs.said_laws.said_schedules.Goals as goal

pub returns : goal.returns
returns c = λ duration periods. (said_schedule_is duration periods, is_said duration periods)
