-- Any reply to a stop ends its transaction.
use Rattle.std.proofs.Common.{ℤ, ◌∙◌, ap, rules}
use Rattle.std.proofs.lemmas.Int.{to_z-of_z}
use mir.Syntax.{w32}
use Rattle.point_book.specs.Changes.{book_stopped}
use Rattle.sim_point_core.proofs.point_call.reply_to.Goals as goal

pub returns-in-StopTransaction-clause-book : goal.returns-in-StopTransaction-clause-book
returns-in-StopTransaction-clause-book c =
    rw c.in-StopTransaction.is
    (c.stop.ensures ∙ ap (λ (id : ℤ). book_stopped c.args.book.now id) (to_z-of_z w32 c.in-StopTransaction.transaction (search rules)))
