-- The reason holds at each second before the one that the loop has reached.
use Rattle.std.proofs.Common.{◌≡◌, ℕ, ◌+◌, ◌-◌, ◌<◌, ◌≤◌}
use Rattle.explain_pages.specs.ByCases.Throughout.{Says}
use Rattle.explain_pages.proofs.row_at_connector.RowAtConnector.first_failing.Given as goal

abbrev pub invariant-loop-reason : goal.invariant-loop-reason
invariant-loop-reason l =
    (l.end ≡ l.self.ask.start + l.self.ask.duration)
    × (l.self.ask.start ≤ l.instant)
    × ((second : ℕ) → l.self.ask.start ≤ second → second < l.instant → Says l.reason l.self second)

abbrev pub decreases-loop-reason : goal.decreases-loop-reason
decreases-loop-reason l = l.end - l.instant
