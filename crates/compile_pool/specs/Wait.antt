-- The counts of a session for an answer that it waited for.
use Rattle.std.specs.Prelude.{◌≡◌, ◌≤◌, ◌+◌}
use Rattle.version_store.specs.Passes.{PassState}

-- one answer more, and no older version of the store
pub record CountsOneAnswer (old new : PassState) : Type 0 where
  pub answers : new.totals.answers ≡ old.totals.answers + 1
  pub changes : new.totals.changes ≡ old.totals.changes
  pub seen : old.seen ≤ new.seen
