-- Nothing runs in an empty book.
use Rattle.std.proofs.Common.{ap, ◌∙◌, None, replicate, length}
use Rattle.point_book.specs.Book.{BookState}
use Rattle.sim_point_core.proofs.RunningLemmas.{running-empty}
use Rattle.sim_point_core.proofs.own_book.OwnBook.try_new.Goals as goal

pub invariant_of-result : goal.invariant_of-result
invariant_of-result c =
    let count = c.connectors.ensures ∙ ap (λ (b : BookState). length b.ceilings) c.in_ok-book.ensures in
    rw c.in_ok-book.ensures (running-empty _ _ (c.in_ok-running.ensures ∙ ap (λ n. replicate n None) count))
