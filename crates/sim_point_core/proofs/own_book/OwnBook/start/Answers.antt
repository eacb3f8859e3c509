-- The slot of the new transaction is its own.
use Rattle.std.proofs.Common.{◌≡◌, ◌-◌, length, Some, ap, arith, rules}
use Rattle.transactions.specs.ActiveTable.{began}
use Rattle.transactions.specs.declared.active_table.Began.TheVariants.{Fresh}
use Rattle.point_book.specs.Book.{BookState}
use Rattle.sim_point_core.proofs.RunningLemmas.{slots-set, length-running}
use Rattle.sim_point_core.proofs.own_book.OwnBook.start.Goals as goal

pub index_mut-requires : goal.index_mut-requires
index_mut-requires c =
    let same = length-running c.self.inside.book.transactions c.self.inside.running.items c.self.invariant in
    let slots = c.view-view.ensures.book.slots in
    let view = ap (λ (b : BookState). length b.ceilings) c.self.view_is in
    omega (arith, same, slots, view, c.requires.has, c.requires.above, c.self.inside.running.ok.0)

pub invariant_of-self : goal.invariant_of-self
invariant_of-self c =
    let fresh : began c.self.inside.book.transactions c.args.connector c.args.begin ≡ Fresh = search rules in
    rw (c.in-Ok-Fresh.ensures.book, fresh, c.running_of-running.ensures)
    (slots-set c.self.inside.book.transactions c.self.inside.running.items (c.args.connector - 1) (Some _) c.self.invariant)
