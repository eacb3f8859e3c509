-- Lemmas that crates above cite: nothing here has to be believed.
-- A range with one more number.
use Rattle.std.proofs.Common.{◌≡◌, ℕ, ◌+◌, zero, suc, List, [], ◌∷◌, ◌++◌, ap, arith}
use Rattle.std.specs.List.{range_with_len}

pub range_more : (a n j : ℕ) → a + n ≡ j → range_with_len a (n + 1) ≡ range_with_len a n ++ j ∷ []
range_more a zero j h = let e : a ≡ j = omega arith in ap (λ (x : ℕ). x ∷ []) e
range_more a (suc n) j h =
    let next : suc n + 1 ≡ suc (n + 1) = omega arith in
    rw next (ap (λ (xs : List ℕ). a ∷ xs) (range_more (a + 1) n j (omega arith)))
