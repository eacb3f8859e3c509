-- The heap has the row in place of its first item.
use Rattle.std.proofs.Common.{rules}
use Rattle.std.proofs.lemmas.Option.{MatchOption-at_some}
use Rattle.sweep_compiler.proofs.Queueing.{replaced}
use Rattle.sweep_compiler.proofs.queue.Queue.replace_first.Goals as goal

pub returns : goal.returns
returns c =
    let first = c.unwrap-first.result in
    let rest = MatchOption-at_some _ _ first c.unwrap-first.ensures c.peek_mut.ensures.rest in
    let t = replaced c.args.due c.self.inside.heap.data.items _ _ c.args.self.now c.self.view_is rest (c.drop-first.ensures.permutation (search rules)) in
    search rules
