-- A copy of a receipt covers the same states.
use Rattle.std.proofs.Common.{sym, subst}
use Rattle.journal.specs.Account.{Covers, ReceiptState}
use Rattle.journal_file.proofs.journal_file.NotedEntries.receipt_for.Goals as goal

pub returns-then-covers : goal.returns-then-covers
returns-then-covers g c =
    subst (λ (r : ReceiptState). Covers g.N.ListName.is_recorded r c.args.recorded.now) (sym c.copy.ensures)
    (c.covers.ensures c.if-covers.true)
