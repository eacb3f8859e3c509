-- The profiles after an install meet the invariant.
use Rattle.std.proofs.Common.{◌≡◌, ◌≤◌, None, length, rules}
use Rattle.std.specs.Arc.{arc_slice_items}
use Rattle.point_book.specs.Book.{active_on}
use Rattle.point_book.specs.Changes.{transaction_refusal}
use Rattle.point_book.proofs.BookLemmas.{book-installed}
use Rattle.point_book.proofs.book.PointBook.install.Goals as goal
use Rattle.point_book.proofs.book.PointBook.install.Goals.{in-Ok, in-Err}

pub invariant_of-self : goal.invariant_of-self
invariant_of-self c =
    let has : c.args.row.connector ≤ length (arc_slice_items c.self.inside.ceilings) = search rules in
    let allowed : transaction_refusal (active_on c.self.inside.transactions c.args.row.connector) c.args.row.profile ≡ None = search rules in
    elim c.match-install.branch [
      | in-Ok w ↦ rw w.in-Ok.ensures.rows (book-installed _ _ c.self.invariant has allowed)
      | in-Err w ↦ rw w.in-Err.ensures.refused.unchanged c.self.invariant
    ]
