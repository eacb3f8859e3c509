-- The heap has one more item.
use Rattle.sweep_compiler.proofs.Queueing.{pushed}
use Rattle.sweep_compiler.proofs.queue.Queue.push.Goals as goal

pub returns : goal.returns
returns c =
    pushed c.args.due c.self.inside.heap.data.items c.push.new.self.data.items c.args.self.now c.self.view_is c.in_ok-push.ensures.permutation
