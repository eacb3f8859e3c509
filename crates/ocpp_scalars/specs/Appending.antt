-- The effect of an append to a text, and the text that a failed append leaves.
use Rattle.std.specs.Prelude.{◌≡◌, ℕ, List, ◌++◌, Result, MatchResult}

-- the text begins with `before`, and may continue in any way
pub record BeginsWith (text before : List ℕ) : Type 0 where
  pub behind : List ℕ
  pub is : text ≡ before ++ behind

-- a text is appended; if the append fails, the new text still begins with the old one
abbrev pub Appends : {A E : Type 0} → Result A E → List ℕ → List ℕ → List ℕ → Type 0
Appends result old new text = MatchResult result (λ _. new ≡ old ++ text) (λ _. BeginsWith new old)
