-- `SiteFiles` and `SiteFaults` prove the law.
use Rattle.site_rules.proofs.SiteFiles.{site-files}
use Rattle.site_rules.proofs.SiteFaults.{site-faults}
use Rattle.site_rules.proofs.site_laws.site_files.Goals as goal

pub returns-clause-site : goal.returns-clause-site
returns-clause-site c = site-files

pub returns-clause-fault : goal.returns-clause-fault
returns-clause-fault c = site-faults
