-- The forms of a line of a script.
use Rattle.std.specs.Prelude.{ℕ, ◌≡◌, ◌≢◌, ◌<◌, List, ◌∷◌, ◌++◌, length, slice_index, codes}
use Rattle.std.specs.Fmt.{decimal}
use Rattle.std.specs.List.{EachIndex}
use Rattle.ocpp_scalars.specs.Ascii.{space}
use Rattle.replay.specs.declared.script.form.ScriptWord.{ScriptWord}
use Rattle.replay.specs.declared.script.form.ScriptWord.TheVariants.{Operator, Point, Hold}
use Rattle.texts.specs.Number.{IsNumber}

pub data Form : Type 0 where
  -- `INSTANT operator ID FRAME`, `INSTANT point ID FRAME` and `INSTANT hold ID FRAME`
  text_line : List ℕ → ScriptWord → List ℕ → List ℕ → Form
  -- `INSTANT release N`
  release_line : List ℕ → ℕ → Form

abbrev pub spelled : ScriptWord → List ℕ
spelled Operator = codes "operator"
spelled Point = codes "point"
spelled Hold = codes "hold"

-- a word: at least one byte, and none of them a space
abbrev pub IsWord : List ℕ → Type 0
IsWord word = (0 < length word) × EachIndex word (λ k. slice_index word k ≢ space)

-- A line is of a form: words with one space between them. The frame is the rest of the line, and
-- the number is printed in decimal.
abbrev pub IsOfForm : List ℕ → Form → Type 0
IsOfForm line (text_line instant word point frame) =
    (line ≡ instant ++ (space ∷ (spelled word ++ (space ∷ (point ++ space ∷ frame)))))
    × IsWord instant × IsWord point
IsOfForm line (release_line instant number) =
    (line ≡ instant ++ (space ∷ (codes "release" ++ (space ∷ decimal number))))
    × IsWord instant × IsNumber number
