-- The values kept from the parts read so far, with one more part.
use Rattle.std.proofs.Common.{◌≡◌, ◌+◌, ◌<◌, List, [], ◌∷◌, ◌++◌, length, Option, Result, Ok, Err, refl, sym, ap, ◌∙◌, arith}
use Rattle.ocpp_scalars.specs.ResultSteps.{◌>>=◌}
use Rattle.ocppj_frame.specs.Tree.{Tree}
use Rattle.site_rules.specs.declared.fault.SiteFault.{SiteFault}
use Rattle.site_rules.specs.declared.reading.entry.PointFields.{PointFields}
use Rattle.site_rules.specs.declared.reading.entries.FoundPoints.{FoundPoints}
use Rattle.site_rules.specs.Limits.{max_points}
use Rattle.site_rules.specs.Site.{PointEntry, SiteState}
use Rattle.site_rules.specs.ByCases.SiteReading.{point_of, with_point}
use Rattle.site_rules.specs.ByCases.Parts.{IsEntry, with_entry, no_points, AreFound}
use Rattle.site_rules.proofs.PartsRead.{entry-point, with_points-last}

length-last : (trees : List Tree) (tree : Tree) → length (trees ++ tree ∷ []) ≡ length trees + 1
length-last [] tree = refl
length-last (t ∷ ts) tree = let last = length-last ts tree in omega arith

entry-step : (points : Result SiteState SiteFault) (read : Option PointFields) (tree : Tree) → IsEntry read tree
    → with_entry points read ≡ (points >>= (λ (s : SiteState). point_of s tree >>= (λ (point : PointEntry). Ok (with_point s point))))
entry-step (Ok site) read tree h = ap (λ (r : Result PointEntry SiteFault). r >>= (λ (point : PointEntry). Ok (with_point site point))) (entry-point site read tree h)
entry-step (Err fault) read tree h = refl

-- one more entry, of those that may be too many
pub found_more : (found more : FoundPoints) (before : List Tree) (read : Option PointFields) (tree : Tree) → AreFound found before → IsEntry read tree → found.count < max_points
    → more.count ≡ found.count + 1 → more.points ≡ with_entry found.points read
    → AreFound more (before ++ tree ∷ [])
found_more found more before read tree h is few counted points =
    let last = length-last before tree in
    let count = h.count in
    record {
      count = omega arith;
      points = λ within. points ∙ entry-step found.points read tree is
          ∙ ap (λ (r : Result SiteState SiteFault). r >>= (λ (s : SiteState). point_of s tree >>= (λ (point : PointEntry). Ok (with_point s point)))) (h.points (omega arith))
          ∙ sym (with_points-last no_points before tree);
    }
