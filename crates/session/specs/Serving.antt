-- The counters of a session while it is served.
use Rattle.std.specs.Prelude.{◌≤◌}
use Rattle.version_store.specs.Passes.{PassState}

-- The counters never decrease: changes, answers, and the version of the store that was seen.
pub record KeepsPass (old new : PassState) : Type 0 where
  pub changes : old.totals.changes ≤ new.totals.changes
  pub answers : old.totals.answers ≤ new.totals.answers
  pub seen : old.seen ≤ new.seen
