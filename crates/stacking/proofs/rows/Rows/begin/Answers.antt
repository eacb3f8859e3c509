-- The rows after a start with a profile meet the invariant.
use Rattle.std.proofs.Common.{◌≡◌, ◌<◌, length, rules}
use Rattle.profile.specs.declared.row.Row.{Row}
use Rattle.profile.specs.Changes.{installed, rows_beside, without_transaction_profiles}
use Rattle.stacking.specs.Limits.{max_rows}
use Rattle.stacking.specs.Rows.{AreRows}
use Rattle.stacking.proofs.RowLemmas.{rows-filter, rows-installed}
use Rattle.stacking.proofs.rows.Rows.begin.Goals as goal

pub invariant_of-self-then-staying-lt-MAX_ROWS : goal.invariant_of-self-then-staying-lt-MAX_ROWS
invariant_of-self-then-staying-lt-MAX_ROWS c =
    let row : Row = record {
      connector = c.args.connector;
      moment = c.args.moment;
      profile = c.with_transaction.result;
    } in
    let rows-are : c.drop_transaction_profiles-2.new.rows.items
    ≡ without_transaction_profiles c.self.inside.items.items c.args.connector = search rules in
    let made : c.push.new.self.items ≡ installed c.drop_transaction_profiles-2.new.rows.items row = search rules in
    let room : length (rows_beside c.drop_transaction_profiles-2.new.rows.items row) < max_rows = search rules in
    let left : AreRows c.drop_transaction_profiles-2.new.rows.items = rw rows-are (rows-filter _ _ c.self.invariant) in
    rw made (rows-installed c.drop_transaction_profiles-2.new.rows.items row left room)

pub invariant_of-self-else-staying-lt-MAX_ROWS : goal.invariant_of-self-else-staying-lt-MAX_ROWS
invariant_of-self-else-staying-lt-MAX_ROWS c =
    let rows-are : c.drop_transaction_profiles-2.new.rows.items
    ≡ without_transaction_profiles c.self.inside.items.items c.args.connector = search rules in
    rw rows-are (rows-filter _ _ c.self.invariant)

pub invariant_of-self : goal.invariant_of-self
invariant_of-self c = rw c.drop_transaction_profiles.ensures.rows (rows-filter _ _ c.self.invariant)
