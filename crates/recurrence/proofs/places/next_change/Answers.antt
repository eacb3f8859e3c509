-- The rate is constant up to the nearest place, by the first clause.
use Rattle.std.proofs.Common.{rules}
use Rattle.recurrence.specs.Theory.Rates.{one_rate}
use Rattle.recurrence.proofs.places.next_change.Goals as goal

pub returns-in_err-place-clause-rate : goal.returns-in_err-place-clause-rate
returns-in_err-place-clause-rate c = one_rate c.args.profile.now c.args.base c.args.instant c.from_residual.result (search rules)

pub returns-clause-rate : goal.returns-clause-rate
returns-clause-rate c = one_rate c.args.profile.now c.args.base c.args.instant c.try_new.result (search rules)
