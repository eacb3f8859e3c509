-- By the counts of every history.
use Rattle.std.proofs.Common.{refl}
use Rattle.site_core.specs.State.{opening_at}
use Rattle.site_core.proofs.KeptRequests.{counts}
use Rattle.site_core.proofs.headline.requests_are_answered_once.Goals as goal

pub returns-clause-once : goal.returns-clause-once
returns-clause-once c = λ site numbers events state legal number. (counts (opening_at site numbers) events state refl legal).once number

pub returns-clause-kept : goal.returns-clause-kept
returns-clause-kept c = λ site numbers events state legal number. (counts (opening_at site numbers) events state refl legal).kept number
