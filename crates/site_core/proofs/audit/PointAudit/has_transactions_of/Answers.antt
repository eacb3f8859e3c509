-- The code's comparison is the one of the definition.
use Rattle.site_core.proofs.EqualLemmas.{transactions_test}
use Rattle.site_core.proofs.audit.PointAudit.has_transactions_of.Goals as goal

pub returns : goal.returns
returns c =
    rw (← c.self.view_is, ← c.book.ensures.value)
    (transactions_test c.book.result.now.transactions c.args.now.now.transactions
    c.same_transactions.result c.same_transactions.ensures)
