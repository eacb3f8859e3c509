-- The points of a site and the map that keeps them; the index of a point.
use Rattle.std.proofs.Common.{◌≡◌, ℕ, suc, ◌+◌, not, cond, nat_lt, false, List, [], ◌∷◌, map, length, position, get_or, Option, Some, None, IfSome, is_some, String, string_bytes, bytes_eq, refl, ap, sym, ◌∙◌, true≢false}
use Rattle.std.specs.List.{prefix_len}
use Rattle.std.specs.Map.{keys_of, lookup}
use Rattle.std.proofs.lemmas.List.Quantifiers.{position-Some}
use Rattle.std.proofs.lemmas.Option.{slice_get-get_or}
use Rattle.std.proofs.lemmas.Slice.Eq.{bytes_eq-Decides}
use Rattle.indexmap.proofs.MapLemmas.{some_index}
use Rattle.site_rules.specs.declared.point.PointLimits.{PointLimits}
use Rattle.site_rules.specs.Site.{PointEntry, SiteState, IsPlaceOf, kept_entry, place_of}

none_there : {X : Type 0} (found : Option X) → is_some found ≡ false → found ≡ None
none_there None h = refl
none_there (Some x) h = absurd (true≢false h)

module _ {A : Type 0} (id : List ℕ) where
  lacking_before : (es : List (String A × PointLimits)) → prefix_len (λ (k : String A). not (bytes_eq id (string_bytes k))) (keys_of es) ≡ prefix_len (λ (p : PointEntry). not (bytes_eq id p.id)) (map kept_entry es)
  lacking_before [] = refl
  lacking_before (e ∷ es) = ap (λ (n : ℕ). cond (not (bytes_eq id (string_bytes e.0))) (1 + n) 0) (lacking_before es)

  as_many : (es : List (String A × PointLimits)) → length (keys_of es) ≡ length (map kept_entry es)
  as_many [] = refl
  as_many (e ∷ es) = ap (λ (n : ℕ). suc n) (as_many es)

  -- the index in the map is that among the points
  pub place-kept : (es : List (String A × PointLimits)) → position (λ (k : String A). bytes_eq id (string_bytes k)) (keys_of es) ≡ position (λ (p : PointEntry). bytes_eq id p.id) (map kept_entry es)
  place-kept es = λ j. cond (nat_lt (lacking_before es j) (as_many es j)) (Some (lacking_before es j)) None

  -- if no point has the identity, the map has no such key
  pub lookup-new : (es : List (String A × PointLimits)) → position (λ (p : PointEntry). bytes_eq id p.id) (map kept_entry es) ≡ None → lookup (λ (k : String A). bytes_eq id (string_bytes k)) es ≡ None
  lookup-new es new = none_there _ (sym (some_index (λ (k : String A). bytes_eq id (string_bytes k)) es) ∙ ap is_some (place-kept es ∙ new))

-- the index of an identity is one of a point that has it
pub IsPlaceOf-place : (site : SiteState) (id : List ℕ) (found : Option ℕ) → found ≡ place_of site id → IfSome found (IsPlaceOf site id)
IsPlaceOf-place site id None h = tt
IsPlaceOf-place site id (Some place) h =
    let blank : PointEntry = record { id = []; ceiling = 0; ceilings = [] } in
    let at = position-Some (λ (p : PointEntry). bytes_eq id p.id) site.points place blank (sym h) in
    record {
      point = get_or site.points place blank;
      here = slice_get-get_or site.points place blank at.0;
      same = sym ((bytes_eq-Decides id (get_or site.points place blank).id).0 at.1);
    }
