-- The rows so far and the remaining ones are all rows.
use Rattle.std.proofs.Common.{◌≡◌, ◌++◌, map, length}
use Rattle.meaning.specs.View.{point_state}
use Rattle.stacking.specs.ByCases.Candidates.{candidates_left}
use Rattle.sweep_compiler.specs.ByCases.Running.{running_from}
use Rattle.sweep_compiler.proofs.gathering.Gathering.add.Given as goal

abbrev pub invariant-loop-row : goal.invariant-loop-row
invariant-loop-row l =
    l.runs.items ++ map (running_from (point_state l.self.view) l.connector l.self.asked l.self.last) (candidates_left l.rows)
    ≡ l.fn.runs.items ++ map (running_from (point_state l.self.view) l.connector l.self.asked l.self.last) (candidates_left l.fn.rows)

abbrev pub decreases-loop-row : goal.decreases-loop-row
decreases-loop-row l = length (candidates_left l.rows)
