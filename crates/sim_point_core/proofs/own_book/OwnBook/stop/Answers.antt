-- The slot of the ended transaction is emptied.
use Rattle.std.proofs.Common.{◌-◌, None, sym}
use Rattle.sim_point_core.proofs.RunningLemmas.{slots-set, one-stopped}
use Rattle.sim_point_core.proofs.own_book.OwnBook.stop.Goals as goal

pub invariant_of-self : goal.invariant_of-self
invariant_of-self c =
    rw (c.stop.ensures.book, one-stopped _ _ _ (sym c.in-Some.ensures.connector))
    (slots-set c.self.inside.book.transactions c.self.inside.running.items (c.in-Some.connector - 1) None c.self.invariant)
