-- The rows after an install meet the invariant.
use Rattle.std.proofs.Common.{◌≡◌, ◌<◌, length, rules}
use Rattle.profile.specs.Changes.{installed, rows_beside}
use Rattle.stacking.specs.Limits.{max_rows}
use Rattle.stacking.proofs.RowLemmas.{rows-installed}
use Rattle.stacking.proofs.rows.Rows.install.Goals as goal

pub invariant_of-self-2 : goal.invariant_of-self-2
invariant_of-self-2 c =
    let made : c.push.new.self.items ≡ installed c.self.inside.items.items c.args.row = search rules in
    let room : length (rows_beside c.self.inside.items.items c.args.row) < max_rows = search rules in
    rw made (rows-installed _ _ c.self.invariant room)
