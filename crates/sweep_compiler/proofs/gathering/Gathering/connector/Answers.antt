-- TxProfiles come before TxDefaultProfiles.
use Rattle.std.proofs.Common.{◌≡◌, ◌++◌, rules, sym, subst}
use Rattle.meaning.specs.View.{point_state}
use Rattle.sweep_compiler.specs.ByCases.Running.{AreFalling}
use Rattle.sweep_compiler.proofs.GatheredRuns.{connector_falls}
use Rattle.sweep_compiler.proofs.gathering.Gathering.connector.Goals as goal

pub new-requires : goal.new-requires
new-requires c =
    let all : c.append.new.self.items ≡ c.in_ok-runs.runs.items ++ c.in_ok-default.default.items = search rules in
    record {
      falling = subst AreFalling (sym all) (connector_falls (point_state c.args.self.now.view) c.args.connector c.args.self.now.asked c.args.self.now.last
          c.in_ok-runs.runs.items c.in_ok-default.default.items c.in_ok-runs.ensures c.in_ok-default.ensures);
    }
