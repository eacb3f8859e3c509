-- The index in the map is that among the points.
use Rattle.std.proofs.Common.{◌∙◌, ap}
use Rattle.site_rules.specs.Site.{SiteState, place_of}
use Rattle.site_rules.proofs.PointLemmas.{place-kept, IsPlaceOf-place}
use Rattle.site_rules.proofs.site.Site.place_of.Goals as goal

pub returns-clause-place : goal.returns-clause-place
returns-clause-place c =
    let kept = place-kept c.args.id.now c.self.inside.points.entries in
    let place = c.get_index_of.ensures.index ∙ (kept ∙ ap (λ (site : SiteState). place_of site c.args.id.now) c.self.view_is) in
    cc (place)

pub returns-clause-found : goal.returns-clause-found
returns-clause-found c = IsPlaceOf-place c.args.self.now c.args.id.now c.get_index_of.result (returns-clause-place c)
