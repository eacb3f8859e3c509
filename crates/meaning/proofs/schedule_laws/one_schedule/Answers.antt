-- Exact periods are the computed ones.
use Rattle.std.proofs.Common.{sym, ◌∙◌}
use Rattle.meaning.specs.Limit.{limit_asked}
use Rattle.meaning.specs.Theory.ExactPeriods.{exact_is}
use Rattle.meaning.proofs.schedule_laws.one_schedule.Goals as goal

pub returns : goal.returns
returns c = λ state connector start duration one other h k.
    exact_is (limit_asked state connector start) duration one h ∙ sym (exact_is (limit_asked state connector start) duration other k)
