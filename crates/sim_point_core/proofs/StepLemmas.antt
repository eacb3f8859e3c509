-- The remaining steps after one is inserted before them.
use Rattle.std.proofs.Common.{◌≡◌, ◌≤◌, ℕ, List, ◌∷◌, length, drop, take, ap, sym, ◌∙◌}
use Rattle.std.proofs.lemmas.List.{length-take-le}
use Rattle.std.proofs.Math.Seq.{drop-append_seam}
use Rattle.std.specs.List.{insert}

pub drop_insert : {X : Type 0} → (xs : List X) (place : ℕ) (x : X) → place ≤ length xs
    → drop place (insert xs place x) ≡ x ∷ drop place xs
drop_insert xs place x within =
    ap (λ (n : ℕ). drop n (insert xs place x)) (sym (length-take-le place xs within))
    ∙ drop-append_seam (take place xs) (x ∷ drop place xs)
