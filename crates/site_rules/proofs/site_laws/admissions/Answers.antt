-- `AdmissionCauses` proves the law.
use Rattle.site_rules.proofs.AdmissionCauses.{admissions}
use Rattle.site_rules.proofs.site_laws.admissions.Goals as goal

pub returns : goal.returns
returns c = admissions
