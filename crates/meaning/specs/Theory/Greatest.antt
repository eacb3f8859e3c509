-- A definition for lemmas, which crates above cite too: nothing here has to be believed.
-- The greatest of two.
use Rattle.std.proofs.Common.{ℕ, [], ◌∷◌, Option}
use Rattle.std.specs.List.{filter_map}
use Rattle.profile.specs.Greatest.{greatest}

-- the greatest of two options, or the only one
abbrev pub greatest_of : {X : Type 0} → (X → ℕ) → Option X → Option X → Option X
greatest_of key best next = greatest key (filter_map (λ x. x) (best ∷ (next ∷ [])))
