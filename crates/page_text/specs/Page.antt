-- A text that is written piece by piece: all of its bytes, or nothing once an allocation failed.
use Rattle.std.specs.Prelude.{ℕ, ◌≡◌, ◌⊎◌, ◌++◌, List, Bool, true, false, Option, Some, None}

abbrev pub page_of : Bool → List ℕ → Option (List ℕ)
page_of true bytes = None
page_of false bytes = Some bytes

-- a piece is behind the text, or there is no text
abbrev pub TakesPiece : Option (List ℕ) → List ℕ → Option (List ℕ) → Type 0
TakesPiece None piece new = new ≡ None
TakesPiece (Some text) piece new = (new ≡ None) ⊎ (new ≡ Some (text ++ piece))
