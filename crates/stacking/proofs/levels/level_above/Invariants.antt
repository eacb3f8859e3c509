-- The rows so far have levels below this one.
use Rattle.std.proofs.Common.{◌<◌, ◌≤◌, take}
use Rattle.std.specs.List.{All}
use Rattle.stacking.proofs.levels.level_above.Given as goal

abbrev pub invariant-loop-row : goal.invariant-loop-row
invariant-loop-row l = record {
  above : All (λ row. row.profile.stack_level < l.above) (take l.row-index l.rows);
  level : l.above ≤ 100;
}
