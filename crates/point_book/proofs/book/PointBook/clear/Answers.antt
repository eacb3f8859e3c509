-- The remaining profiles meet the invariant.
use Rattle.point_book.proofs.BookLemmas.{book-filtered}
use Rattle.point_book.proofs.book.PointBook.clear.Goals as goal

pub invariant_of-self : goal.invariant_of-self
invariant_of-self c = rw c.clear.ensures.rows (book-filtered _ _ c.self.invariant)
