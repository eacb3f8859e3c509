-- The point's own rows are in falling order of rank.
use Rattle.meaning.specs.View.{point_state}
use Rattle.sweep_compiler.proofs.GatheredRuns.{point_falls}
use Rattle.sweep_compiler.proofs.gathering.Gathering.point.Goals as goal

pub new-requires : goal.new-requires
new-requires c = record {
  falling = point_falls (point_state c.args.self.now.view) c.args.self.now.asked c.args.self.now.last c.in_ok-runs.runs.items c.in_ok-runs.ensures;
}
