-- Objects whose values are written one by one, each after the text before it.
use Rattle.std.proofs.Common.{◌≡◌, ℕ, List, [], ◌++◌, append-nil, append_assoc, ap, ◌∙◌, Result, Ok, Err, sym}
use Rattle.std.specs.Result.{IsErr}
use Rattle.ocpp_scalars.specs.Appending.{Appends, BeginsWith}

-- The middle one of three values is a string, whose quote q is written with the text after it.
pub three_values : (old a u b v q c w e o r s t x y z : List ℕ) → o ≡ old ++ a → r ≡ o ++ u
    → s ≡ r ++ b → t ≡ s ++ v → x ≡ t ++ (q ++ c) → y ≡ x ++ w → z ≡ y ++ e
    → z ≡ old ++ ((a ++ (u ++ (b ++ ((v ++ q) ++ (c ++ (w ++ [])))))) ++ e)
three_values old a u b v q c w e o r s t x y z f g h i j k l = simp (l, k, j, i, h, g, f, append_assoc, append-nil)

-- The last one of four values is a string.
pub four_values : (old a u b v c w d x q e o p r s t y z m n : List ℕ) → o ≡ old ++ a → p ≡ o ++ u
    → r ≡ p ++ b → s ≡ r ++ v → t ≡ s ++ c → y ≡ t ++ w → z ≡ y ++ d → m ≡ z ++ x → n ≡ m ++ (q ++ e)
    → n ≡ old ++ ((a ++ (u ++ (b ++ (v ++ (c ++ (w ++ (d ++ ((x ++ q) ++ [])))))))) ++ e)
four_values old a u b v c w d x q e o p r s t y z m n f g h i j k l aa bb =
    simp (bb, aa, l, k, j, i, h, g, f, append_assoc, append-nil)

-- ---- a row of appends of which one fails

-- a text begins with the one to which it was appended
pub begun : (old piece text : List ℕ) → text ≡ old ++ piece → BeginsWith text old
begun old piece text is = record { behind = piece; is = is }

pub goes_on : (old before piece text : List ℕ) → BeginsWith before old → text ≡ before ++ piece → BeginsWith text old
goes_on old before piece text begins is = record {
  behind = begins.behind ++ piece;
  is = is ∙ ap (λ (l : List ℕ). l ++ piece) begins.is ∙ append_assoc old begins.behind piece;
}

-- a text that stays as it was
pub stayed : (old text : List ℕ) → text ≡ old → BeginsWith text old
stayed old text is = record { behind = []; is = is ∙ sym (append-nil old) }

-- the append that fails leaves what was there before it
pub ends_early : {A E : Type 0} (result : Result A E) (old before new text : List ℕ) → IsErr result
    → BeginsWith before old → BeginsWith new before → Appends result old new text
ends_early (Ok value) old before new text fails begins more = absurd (cc fails)
ends_early (Err error) old before new text fails begins more =
    goes_on old before more.behind new begins more.is
