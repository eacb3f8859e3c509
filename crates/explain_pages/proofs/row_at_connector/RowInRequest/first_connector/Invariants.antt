-- The row is checked for none of the connectors so far.
use Rattle.std.proofs.Common.{ℕ, ◌≤◌}
use Rattle.explain_pages.specs.ByCases.Throughout.{IsLookedAt}
use Rattle.explain_pages.proofs.row_at_connector.RowInRequest.first_connector.Given as goal

abbrev pub invariant-loop-place : goal.invariant-loop-place
invariant-loop-place l = (connector : ℕ) → connector ≤ l.place → ¬ (IsLookedAt l.self connector)
