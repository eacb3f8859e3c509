-- One more connector is added if it is active.
use Rattle.meaning.specs.View.{point_state}
use Rattle.sweep_compiler.proofs.Starting.{active_more}
use Rattle.sweep_compiler.proofs.gathering.Gathering.active.Goals as goal

pub loop-index-preserved : goal.loop-index-preserved
loop-index-preserved c =
    let self = c.args.self.now in
    active_more (point_state self.view) self.asked self.last c.loop-index.index c.loop-index.looked.items c.add_active.new.looked.items c.loop-index.invariant c.in_ok-add_active.ensures.added
