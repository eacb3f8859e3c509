-- The profiles and transactions after a stop meet the invariant.
use Rattle.std.proofs.Common.{◌≡◌, rules}
use Rattle.transactions.specs.ActiveTable.{connector_of, stopped}
use Rattle.point_book.specs.Changes.{rows_after_stop}
use Rattle.point_book.proofs.BookLemmas.{book-stopped}
use Rattle.point_book.proofs.book.PointBook.stop.Goals as goal

pub invariant_of-self-2 : goal.invariant_of-self-2
invariant_of-self-2 c =
    let rows : c.drop_tx.new.self ≡ rows_after_stop (connector_of c.self.inside.transactions c.args.id) c.self.inside.rows = search rules in
    let slots : c.stop.new.self ≡ stopped c.self.inside.transactions c.args.id = search rules in
    rw (rows, slots) (book-stopped _ _ c.self.invariant)
