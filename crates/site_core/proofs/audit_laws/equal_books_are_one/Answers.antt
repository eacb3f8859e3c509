-- Field by field.
use Rattle.site_core.proofs.EqualLemmas.{equal_requests_are_one, equal_transactions_are_one}
use Rattle.site_core.proofs.audit_laws.equal_books_are_one.Goals as goal

pub returns-clause-audits : goal.returns-clause-audits
returns-clause-audits c = equal_requests_are_one

pub returns-clause-transactions : goal.returns-clause-transactions
returns-clause-transactions c = equal_transactions_are_one
