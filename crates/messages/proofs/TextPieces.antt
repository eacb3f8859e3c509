-- Texts appended in pieces.
use Rattle.std.proofs.Common.{◌≡◌, ℕ, List, [], ◌++◌, ap, ◌∙◌, append-nil, append_assoc, Result, Ok, Err, sym}
use Rattle.std.specs.Result.{IsErr}
use Rattle.ocpp_scalars.specs.Appending.{Appends, BeginsWith}

-- A text and one more piece are appended as one.
pub appended : (old text before piece after : List ℕ) → before ≡ old ++ text → after ≡ before ++ piece → after ≡ old ++ (text ++ piece)
appended old text before piece after p q = q ∙ ap (λ (l : List ℕ). l ++ piece) p ∙ append_assoc old text piece

-- The same where both are pieces of one whole.
pub appended_as : (old text before piece after whole : List ℕ) → before ≡ old ++ text → after ≡ before ++ piece → whole ≡ text ++ piece → after ≡ old ++ whole
appended_as old text before piece after whole p q r = appended old text before piece after p q ∙ ap (λ (l : List ℕ). old ++ l) (sym r)

pub three_pieces : (old a b c s t u : List ℕ) → s ≡ old ++ a → t ≡ s ++ b → u ≡ t ++ c → u ≡ old ++ (a ++ b ++ c)
three_pieces old a b c s t u p q r = appended old (a ++ b) t c u (appended old a s b t p q) r

-- ---- objects whose values are written one by one, each after the text before it

pub one_value : (old a v e s t u : List ℕ) → s ≡ old ++ a → t ≡ s ++ v → u ≡ t ++ e → u ≡ old ++ ((a ++ (v ++ [])) ++ e)
one_value old a v e s t u p q r = simp (r, q, p, append_assoc, append-nil)

-- The value is a string, whose quote q is written with the text after it.
pub one_string : (old a v q e s t u : List ℕ) → s ≡ old ++ a → t ≡ s ++ v → u ≡ t ++ (q ++ e) → u ≡ old ++ ((a ++ ((v ++ q) ++ [])) ++ e)
one_string old a v q e s t u h i j = simp (j, i, h, append_assoc, append-nil)

pub two_values : (old a v b w e s t u x y : List ℕ) → s ≡ old ++ a → t ≡ s ++ v → u ≡ t ++ b → x ≡ u ++ w → y ≡ x ++ e → y ≡ old ++ ((a ++ (v ++ ((b ++ w) ++ []))) ++ e)
two_values old a v b w e s t u x y h i j k l = simp (l, k, j, i, h, append_assoc, append-nil)

-- The middle of three values is a string.
pub three_values : (old a u b v q c w e o r s t x y z : List ℕ) → o ≡ old ++ a → r ≡ o ++ u
    → s ≡ r ++ b → t ≡ s ++ v → x ≡ t ++ (q ++ c) → y ≡ x ++ w → z ≡ y ++ e
    → z ≡ old ++ ((a ++ (u ++ (b ++ ((v ++ q) ++ (c ++ (w ++ [])))))) ++ e)
three_values old a u b v q c w e o r s t x y z f g h i j k l = simp (l, k, j, i, h, g, f, append_assoc, append-nil)

-- The last of three values is a string.
pub two_values_and_string : (old a u b v c w q e o r s t x y z : List ℕ) → o ≡ old ++ a → r ≡ o ++ u
    → s ≡ r ++ b → t ≡ s ++ v → x ≡ t ++ c → y ≡ x ++ w → z ≡ y ++ (q ++ e)
    → z ≡ old ++ ((a ++ (u ++ (b ++ (v ++ (c ++ ((w ++ q) ++ [])))))) ++ e)
two_values_and_string old a u b v c w q e o r s t x y z f g h i j k l = simp (l, k, j, i, h, g, f, append_assoc, append-nil)

-- ---- a row of appends of which one fails

-- a text begins with the one to which it was appended
pub begun : (old piece text : List ℕ) → text ≡ old ++ piece → BeginsWith text old
begun old piece text is = record { behind = piece; is = is }

pub goes_on : (old before piece text : List ℕ) → BeginsWith before old → text ≡ before ++ piece → BeginsWith text old
goes_on old before piece text begins is = record {
  behind = begins.behind ++ piece;
  is = is ∙ ap (λ (l : List ℕ). l ++ piece) begins.is ∙ append_assoc old begins.behind piece;
}

-- a text that stays as it was
pub stayed : (old text : List ℕ) → text ≡ old → BeginsWith text old
stayed old text is = record { behind = []; is = is ∙ sym (append-nil old) }

-- the append that fails leaves what was there before it
pub ends_early : {A E : Type 0} (result : Result A E) (old before new text : List ℕ) → IsErr result
    → BeginsWith before old → BeginsWith new before → Appends result old new text
ends_early (Ok value) old before new text fails begins more = absurd (cc fails)
ends_early (Err error) old before new text fails begins more =
    goes_on old before more.behind new begins more.is

-- a head, a payload and an end, whose append is the last and may fail
pub framed : {A E : Type 0} (result : Result A E) (old head payload ending before middle new : List ℕ)
    → before ≡ old ++ head → middle ≡ before ++ payload → Appends result middle new ending
    → Appends result old new (head ++ (payload ++ ending))
framed (Ok value) old head payload ending before middle new p q last =
    simp (last, q, p, append_assoc)
framed (Err error) old head payload ending before middle new p q last =
    goes_on old middle last.behind new (goes_on old before payload middle (begun old head before p) q)
    last.is
