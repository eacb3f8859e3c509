-- Each point so far has a visit.
use Rattle.std.proofs.Common.{◌≡◌, map, take}
use Rattle.site_rules.specs.Site.{SiteState}
use Rattle.operator_calls.specs.Visits.{visited, all_points}
use Rattle.operator_calls.proofs.visit.visits_of_site.Given as goal

abbrev pub invariant-loop-place : goal.invariant-loop-place
invariant-loop-place l = map visited l.visits.items ≡ take l.place (all_points l.site)
