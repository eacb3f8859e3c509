-- Each point of the site has a visit, in order.
use Rattle.std.proofs.Common.{◌≡◌, ◌∙◌, true, sym, ap, map, option_map, arith}
use Rattle.std.proofs.lemmas.Option.{slice_get-map}
use Rattle.site_rules.specs.Site.{PointEntry, point_entry}
use Rattle.operator_calls.specs.Visits.{visited, named, all_points}
use Rattle.operator_calls.proofs.VisitLemmas.{visited-more, none-some}
use Rattle.operator_calls.proofs.visit.visits_of_site.Goals.{in-Some+in_ok-new+in_ok-push, in_default}
use Rattle.operator_calls.proofs.visit.visits_of_site.Goals as goal

pub loop-place-preserved : goal.loop-place-preserved
loop-place-preserved c =
    let site = c.args.site.now in
    let place = c.loop-place.place in
    elim c.match-point.branch [
      | in-Some+in_ok-new+in_ok-push w ↦
          let here = slice_get-map named site.points place
          ∙ ap (option_map named) (sym c.point.ensures.point ∙ ap (option_map point_entry) w.in-Some.is) in
          ap (λ visits. map visited visits.items) w.visits-is
          ∙ ap (map visited) w.in_ok-push.ensures.items
          ∙ visited-more c.loop-place.visits.items w.in_ok-new.field-0 (all_points site) place _
          c.loop-place.invariant here w.in_ok-new.ensures
      | in_default w ↦
          let test = c.loop-place-test.true in
          let end = c.len-place-end.ensures in
          absurd (none-some c.point.result w.in_default.is (c.point.ensures.found.1 (omega (arith, test, end))))
    ]
