-- By the steps of the history.
use Rattle.site_core.proofs.AuditLemmas.{audits_have_their_books}
use Rattle.site_core.proofs.audit_laws.audits_have_their_books.Goals as goal

pub returns : goal.returns
returns c = audits_have_their_books
