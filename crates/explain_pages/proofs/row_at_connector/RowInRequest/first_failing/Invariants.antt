-- The reason holds for each of the connectors so far.
use Rattle.std.proofs.Common.{ℕ, ◌+◌, ◌<◌, ◌≤◌}
use Rattle.explain_pages.specs.ByCases.Throughout.{IsLookedAt, SaysOf}
use Rattle.explain_pages.proofs.row_at_connector.RowInRequest.first_failing.Given as goal

abbrev pub invariant-loop-place : goal.invariant-loop-place
invariant-loop-place l =
    (connector second : ℕ) → connector ≤ l.place → IsLookedAt l.self connector
    → l.self.ask.start ≤ second → second < l.self.ask.start + l.self.ask.duration
    → SaysOf l.reason l.self connector second
