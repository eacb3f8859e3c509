-- The heap has lost its first item.
use Rattle.std.proofs.Common.{rules}
use Rattle.std.proofs.lemmas.Option.{MatchOption-at_some}
use Rattle.sweep_compiler.proofs.Queueing.{removed}
use Rattle.sweep_compiler.proofs.queue.Queue.remove_first.Goals as goal

pub returns : goal.returns
returns c =
    let first = c.unwrap-first.result in
    let rest = MatchOption-at_some _ _ first c.unwrap-first.ensures c.peek_mut.ensures.rest in
    let t = removed c.self.inside.heap.data.items _ _ c.args.self.now c.self.view_is rest c.pop.ensures.permutation in
    search rules
