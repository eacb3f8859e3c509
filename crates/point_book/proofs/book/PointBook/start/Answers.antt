-- The profiles and transactions after a new start meet the invariant.
use Rattle.std.proofs.Common.{◌≡◌, ◌≤◌, ◌-◌, length, ap, ◌∙◌, set, Some, rules}
use Rattle.std.proofs.lemmas.Int.{to_z-of_z}
use Rattle.std.specs.Arc.{arc_slice_items}
use mir.Syntax.{w32}
use mir.Val.{SFits}
use Rattle.stacking.specs.Rows.{rows_begun}
use Rattle.transactions.specs.ActiveTable.{began, placed}
use Rattle.transactions.specs.declared.active_table.Began.{Began}
use Rattle.transactions.specs.declared.active_table.Began.TheVariants.{Fresh}
use Rattle.point_book.proofs.BookLemmas.{book-begun}
use Rattle.point_book.proofs.book.PointBook.start.Goals as goal

pub invariant_of-self-2 : goal.invariant_of-self-2
invariant_of-self-2 c =
    let fresh : began c.self.inside.transactions c.args.connector c.args.begin ≡ Fresh = search rules in
    let rows-are : c.begin.new.self ≡ rows_begun c.self.inside.rows c.args.connector c.args.begin.timestamp c.args.next c.args.profile = search rules in
    let fits : SFits w32 c.args.next = search rules in
    let placed-are = rw (to_z-of_z w32 c.args.next fits) at c.start.ensures.slots in
    let slots-are : c.start.new.self ≡ set c.self.inside.transactions (c.args.connector - 1) (Some (record { id = c.args.next; begin = c.args.begin })) =
    placed-are ∙ ap (λ (b : Began). placed b c.self.inside.transactions c.args.connector (record { id = c.args.next; begin = c.args.begin })) fresh in
    let has : c.args.connector ≤ length (arc_slice_items c.self.inside.ceilings) = search rules in
    rw (rows-are, slots-are) (book-begun _ _ _ _ _ c.self.invariant c.requires.above has)
