-- The best so far is the best of the rows so far.
use Rattle.std.proofs.Common.{◌≡◌, filter, take, option_map}
use Rattle.std.specs.List.{filter_map}
use Rattle.profile.specs.Greatest.{greatest}
use Rattle.profile.specs.Candidates.{is_candidate}
use Rattle.meaning.specs.View.{point_state}
use Rattle.meaning.specs.Cause.{level_of, row_limit}
use Rattle.meaning.specs.ByCases.Cause.{profile_limit_of}
use Rattle.meaning.proofs.view.View.prevailing_profile.Given as goal

abbrev pub invariant-loop-row : goal.invariant-loop-row
invariant-loop-row l =
    l.best ≡ option_map profile_limit_of (greatest level_of (filter_map (row_limit (point_state l.self) l.connector l.asked l.instant) (filter (is_candidate l.purpose l.self.rows.now l.connector) (take l.row-index l.row-items))))
