-- One more visit is one more point.
use Rattle.std.proofs.Common.{◌≡◌, ◌∙◌, ◌+◌, ℕ, Bool, List, [], ◌∷◌, ◌++◌, Option, None, Some, IsSome, map, take, slice_get, ap, sym}
use Rattle.std.proofs.lemmas.List.{map-append, take_more}
use Rattle.std.proofs.lemmas.Option.{slice_get_within, get_or_from_slice_get}
use Rattle.operator_calls.specs.declared.visit.Visit.{Visit}
use Rattle.operator_calls.specs.Visits.{visited}

pub visited-more : (visits : List Visit) (visit : Visit) (points : List (List ℕ × Bool)) (place : ℕ) (point : List ℕ × Bool) → map visited visits ≡ take place points → slice_get points place ≡ Some point → visited visit ≡ point → map visited (visits ++ visit ∷ []) ≡ take (place + 1) points
visited-more visits visit points place point before here same =
    let within = slice_get_within points place point here in
    let read = get_or_from_slice_get points place point point here in
    map-append visited visits (visit ∷ [])
    ∙ ap (λ front. front ++ visited visit ∷ []) before
    ∙ ap (λ last. take place points ++ last ∷ []) (same ∙ sym read)
    ∙ sym (take_more points place point within)

pub none-some : {A : Type 0} (found : Option A) → found ≡ None → IsSome found → ⊥
none-some None none some = absurd (cc some)
none-some (Some x) none some = absurd (cc none)
