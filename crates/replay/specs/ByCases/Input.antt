-- For private clauses: the effect of one read.
use Rattle.std.specs.Prelude.{ℕ, ◌≡◌, ◌≤◌, List, length, ◌++◌, Option, Result, IfOk}
use Rattle.std.specs.Io.KnownBytes.{Consumes, IsAtEnd}
use Rattle.replay.specs.declared.script.input.InputFault.{InputFault}

-- One read took some bytes from a reader. If it succeeded, they were appended, and no byte came
-- only at the end.
abbrev pub ReadOnto : Option (List ℕ) → Option (List ℕ) → List ℕ → List ℕ → ℕ
    → Result ℕ InputFault → Type 0
ReadOnto old new before after most result =
    (more : List ℕ) × Consumes old new more × (length more ≤ most)
    × IfOk result (λ count.
    (after ≡ before ++ more) × (count ≡ length more) × (count ≡ 0 → IsAtEnd new))
