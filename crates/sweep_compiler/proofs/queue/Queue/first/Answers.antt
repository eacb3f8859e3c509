-- The heap's greatest item is the soonest.
use Rattle.sweep_compiler.proofs.Queueing.{first_of, least_of}
use Rattle.sweep_compiler.proofs.queue.Queue.first.Goals as goal

pub returns-in-Some-clause-first : goal.returns-in-Some-clause-first
returns-in-Some-clause-first c = first_of c.in-Some.first.now c.self.inside.heap.data.items c.args.self.now c.self.view_is (search c.in-Some.ensures) c.in-Some.ensures.lookup

pub returns-in-Some-clause-soonest : goal.returns-in-Some-clause-soonest
returns-in-Some-clause-soonest c = least_of c.in-Some.first.now c.self.inside.heap.data.items c.args.self.now c.self.view_is (c.in-Some.ensures.greatest c.self.invariant)
