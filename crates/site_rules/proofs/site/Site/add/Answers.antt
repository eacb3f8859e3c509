-- A new identity comes last.
use Rattle.std.proofs.Common.{◌∙◌, ap, map, ◌++◌, [], ◌∷◌, string_bytes}
use Rattle.std.proofs.lemmas.List.{map-append}
use Rattle.std.specs.String.{string_eq}
use Rattle.indexmap.proofs.CallerLemmas.{insert_entry-new}
use Rattle.site_rules.specs.Site.{SiteState, place_of, kept_entry}
use Rattle.site_rules.proofs.PointLemmas.{lookup-new}
use Rattle.site_rules.proofs.site.Site.add.Goals as goal

pub returns-clause-points : goal.returns-clause-points
returns-clause-points c =
    let new = ap (λ (site : SiteState). place_of site (string_bytes c.args.id)) c.self.view_is ∙ c.requires in
    let entries = c.in_ok-insert.ensures.entries ∙ insert_entry-new string_eq c.self.inside.points c.args.id c.args.limits (lookup-new (string_bytes c.args.id) c.self.inside.points.entries new) in
    let points =
    ap (map kept_entry) entries
    ∙ (map-append kept_entry c.self.inside.points.entries _ ∙ ap (λ (site : SiteState). site.points ++ kept_entry (c.args.id, c.args.limits) ∷ []) c.self.view_is) in
    cc (points)
