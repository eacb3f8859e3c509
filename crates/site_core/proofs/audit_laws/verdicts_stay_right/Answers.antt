-- By the steps of the history.
use Rattle.site_core.proofs.AuditLemmas.{verdicts_stay_right}
use Rattle.site_core.proofs.audit_laws.verdicts_stay_right.Goals as goal

pub returns : goal.returns
returns c = verdicts_stay_right
