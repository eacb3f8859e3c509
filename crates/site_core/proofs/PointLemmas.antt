-- The points of a site, by the state that is kept of each.
use Rattle.std.proofs.Common.{◌≡◌, ℕ, ◌+◌, ◌<◌, ◌≤◌, List, [], ◌∷◌, length, map, Option, Some, slice_get, get_or, slice_set, option_map, option_and_then, take, ◌++◌, length-append, refl, sym, ap, ◌∙◌, arith}
use Rattle.std.proofs.lemmas.List.{length-map, map_more}
use Rattle.std.proofs.lemmas.Option.{slice_get-map, slice_get-get_or, slice_get_within, get_or_from_slice_get}
use Rattle.std.proofs.Math.Seq.{map-set_same}
use Rattle.site_rules.specs.Site.{SiteState, PointEntry, place_of, HasConnector}
use Rattle.site_core.specs.ChargePoint.{ChargePointState, opening_point}
use Rattle.site_core.specs.State.{no_point, point_in, connectors_in_book, connectors_in_file, ArePointsOf}

-- as many points are kept as the site has
pub as_many : (site : SiteState) (points : List ChargePointState) → ArePointsOf site points
    → length points ≡ length site.points
as_many site points same =
    omega (
      arith,
      ap (λ (l : List ℕ). length l) same,
      length-map {A = ChargePointState} {B =
          ℕ},
      length-map {A = PointEntry} {B = ℕ},
    )

-- a point with as many connectors in the place of another
pub replaced : (site : SiteState) (points : List ChargePointState) (place : ℕ)
    (new : ChargePointState) → ArePointsOf site points
    → length new.book.ceilings ≡ length (point_in points place).book.ceilings
    → ArePointsOf site (slice_set points place new)
replaced site points place new same kept =
    map-set_same connectors_in_book points place new no_point kept ∙ same

-- the opening points have as many connectors as in the site file
pub opening_points_fit : (points : List PointEntry)
    → map connectors_in_book (map opening_point points) ≡ map connectors_in_file points
opening_points_fit [] = refl
opening_points_fit (point ∷ points) = ap (λ (l : List ℕ). length point.ceilings ∷ l)
    (opening_points_fit points)

-- one more item, if each is made from its point's entry
pub one_more : {X : Type 0} (f : PointEntry → X) (points : List PointEntry) (items new : List X)
    (n : ℕ) (point : PointEntry) → items ≡ map f (take (length items) points)
    → n ≡ length items → Some point ≡ slice_get points n → new ≡ items ++ f point ∷ []
    → (new ≡ map f (take (length new) points)) × (length new ≤ length points)
one_more {X} f points items new n point so_far count here more =
    let within : n < length points = slice_get_within points n point (sym here) in
    let size : length new ≡ n + 1 = omega (
      arith,
      count,
      ap (λ
          (l : List X). length l) more,
      length-append items (f point ∷ []),
    ) in
    let read : get_or points n point ≡ point = get_or_from_slice_get points n point point
    (sym here) in
    let step : map f (take (n + 1) points) ≡ map f (take n points) ++ f point ∷ [] =
    map_more f points n point within ∙ ap (λ (p : PointEntry). map f
    (take n points) ++ f p ∷ []) read in
    let front : items ≡ map f (take n points) = so_far
    ∙ ap (λ (k : ℕ). map f (take k points)) (sym count) in (
      more ∙ ap (λ (l : List X). l ++ f point ∷ []) front ∙ sym step
          ∙ ap (λ (k : ℕ). map f (take k points)) (sym size),
      omega (arith, size, within),
    )

-- a connector of a point of the site file is one of the point that is kept
pub has_connector : (site : SiteState) (points : List ChargePointState) (id : List ℕ)
    (place connector : ℕ) → ArePointsOf site points
    → place < length points → place_of site id ≡ Some place → HasConnector site id connector
    → connector ≤ length (point_in points place).book.ceilings
has_connector site points id place connector same within here has =
    let point : slice_get site.points place ≡ Some has.point =
    ap (λ (o : Option ℕ). option_and_then (slice_get site.points) o) (sym here) ∙ has.here in
    let kept : slice_get points place ≡ Some (point_in points place) =
    slice_get-get_or points place no_point within in
    let both : Some (length (point_in points place).book.ceilings) ≡ Some
    (length has.point.ceilings) =
    ap (option_map connectors_in_book) (sym kept)
    ∙ sym (slice_get-map connectors_in_book points place)
    ∙ ap (λ (l : List ℕ). slice_get l place) same
    ∙ slice_get-map connectors_in_file site.points place
    ∙ ap (option_map connectors_in_file) point in
    let equal : length (point_in points place).book.ceilings ≡ length has.point.ceilings = cc in
    omega (arith, equal, has.within)
