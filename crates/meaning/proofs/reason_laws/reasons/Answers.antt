-- The laws are proved in `Reasons` and `Causes`.
use Rattle.meaning.specs.Theory.Reasons.{prevailing_is, own_is, reason_limit}
use Rattle.meaning.proofs.Causes.{own_sets, bound_sets}
use Rattle.meaning.proofs.reason_laws.reasons.Goals as goal

pub returns-clause-prevails : goal.returns-clause-prevails
returns-clause-prevails c = prevailing_is

pub returns-clause-limit : goal.returns-clause-limit
returns-clause-limit c = reason_limit

pub returns-clause-cause : goal.returns-clause-cause
returns-clause-cause c = bound_sets

pub returns-clause-share_limit : goal.returns-clause-share_limit
returns-clause-share_limit c = λ state asked instant connector. own_is state connector asked instant

pub returns-clause-share_cause : goal.returns-clause-share_cause
returns-clause-share_cause c = λ state asked instant connector above. own_sets state connector asked instant above
