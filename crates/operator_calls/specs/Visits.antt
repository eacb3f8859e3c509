-- The points that are visited.
use Rattle.std.specs.Prelude.{ℕ, List, Option, Some, None, Bool, true, false, if◌then◌else◌, map, string_bytes}
use Rattle.std.specs.Str.{bytes_eq}
use Rattle.site_rules.specs.Site.{SiteState, PointEntry}
use Rattle.operator_calls.specs.declared.visit.Visit.{Visit}

-- the identity of a visited point, and whether lines about the point begin with it
abbrev pub visited : Visit → List ℕ × Bool
visited visit = (string_bytes visit.id, visit.is_labelled)

-- a visited point whose lines begin with its identity
abbrev pub named : PointEntry → List ℕ × Bool
named point = (point.id, true)

-- all points of a site, in their order
abbrev pub all_points : SiteState → List (List ℕ × Bool)
all_points site = map named site.points

-- the visit to a point by a URL that may name a point: none if it names another one; lines about
-- the point begin with its identity if the URL doesn't name it
abbrev pub visit_to : Option (List ℕ) → List ℕ → Option (List ℕ × Bool)
visit_to None id = Some (id, true)
visit_to (Some named) id = if bytes_eq named id then Some (id, false) else None
