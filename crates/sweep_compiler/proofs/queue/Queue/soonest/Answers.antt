-- The heap's first item is the soonest.
use Rattle.std.proofs.Common.{rules, sym}
use Rattle.sweep_compiler.proofs.Queueing.{soonest_of}
use Rattle.sweep_compiler.proofs.queue.Queue.soonest.Goals as goal

pub returns-in-Some : goal.returns-in-Some
returns-in-Some c =
    soonest_of c.in-Some.first.now c.self.inside.heap.data.items c.args.self.now c.self.view_is (0, search rules, sym c.in-Some.ensures.lookup) (c.in-Some.ensures.greatest c.self.invariant)
