-- The rest of a string after its mark.
use Rattle.std.proofs.Common.{ℕ, ◌<◌, List, ◌∷◌, arith}
use Rattle.std.proofs.lemmas.Str.{IsCharBoundary-after_ascii, IsUtf8-drop}
use Rattle.std.specs.Str.{IsUtf8}

-- the rest after an ASCII byte
pub IsUtf8-past_ascii : (b : ℕ) (bs : List ℕ) → b < 128 → IsUtf8 (b ∷ bs) → IsUtf8 bs
IsUtf8-past_ascii b bs h u = IsUtf8-drop (b ∷ bs) 1 u (IsCharBoundary-after_ascii (b ∷ bs) 0 u (omega arith) h)
