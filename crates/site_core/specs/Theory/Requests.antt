-- Lemmas that crates above cite: a request that is found by its number.
use Rattle.std.proofs.Common.{◌≡◌, ℕ, ◌==◌, Bool, true, false, cond, List, [], ◌∷◌, Some, refl, sym, ap, ◌∙◌, subst, arith}
use Rattle.std.specs.List.{AllByRecursion}
use Rattle.std.proofs.lemmas.Bool.Decides.{nat_tests}
use Rattle.site_core.specs.State.{Kept}
use Rattle.site_core.specs.Requests.{request_of}

-- the found request has the given number
pub found_number : (number : ℕ) (requests : List Kept) (kept : Kept)
    → request_of number requests ≡ Some kept → kept.number ≡ number
found_number number [] kept is = cc
found_number number (first ∷ requests) kept is = go (first.number == number) refl is
    (λ e. found_number number requests kept e)
  where
    go : (here : Bool) → (first.number == number) ≡ here
        → cond here (Some first) (request_of number requests) ≡ Some kept
        → (request_of number requests ≡ Some kept → kept.number ≡ number) → kept.number ≡ number
    go true same is rest =
        let one : first ≡ kept = cc in
        let numbered : first.number ≡ number = grind (arith, nat_tests) in
        ap (λ (k : Kept). k.number) (sym one) ∙ numbered
    go false same is rest = rest is

-- a property of all requests holds of the found one
pub found_holds : (P : Kept → Type 0) (number : ℕ) (requests : List Kept) (kept : Kept)
    → AllByRecursion P requests → request_of number requests ≡ Some kept → P kept
found_holds P number [] kept all is = cc
found_holds P number (first ∷ requests) kept all is = go (first.number == number) is
    (λ e. found_holds P number requests kept all.1 e)
  where
    go : (here : Bool) → cond here (Some first) (request_of number requests) ≡ Some kept
        → (request_of number requests ≡ Some kept → P kept) → P kept
    go true is rest = let one : first ≡ kept = cc in subst P one all.0
    go false is rest = rest is
