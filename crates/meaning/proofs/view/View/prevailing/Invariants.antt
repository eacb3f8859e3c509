-- The best so far is the best of the rows so far.
use Rattle.std.proofs.Common.{◌≡◌, ℕ, filter, take}
use Rattle.std.specs.List.{filter_map}
use Rattle.profile.specs.Greatest.{greatest}
use Rattle.profile.specs.Candidates.{is_candidate}
use Rattle.meaning.specs.View.{point_state}
use Rattle.meaning.specs.Prevailing.{level_and_limit}
use Rattle.meaning.proofs.view.View.prevailing.Given as goal

abbrev pub invariant-loop-row : goal.invariant-loop-row
invariant-loop-row l =
    l.best ≡ greatest (λ (best : ℕ × ℕ). best.0) (filter_map (level_and_limit (point_state l.self) l.connector l.asked l.instant) (filter (is_candidate l.purpose l.self.rows.now l.connector) (take l.row-index l.row-items)))
