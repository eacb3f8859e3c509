-- For invariants: the lines of a script that are left up to the last one that is wanted.
use Rattle.std.specs.Prelude.{ℕ, ◌+◌, ◌-◌, List, take, Option, Some, None}

abbrev pub lines_left : Option ℕ → ℕ → List (List ℕ) → List (List ℕ)
lines_left None number lines = lines
lines_left (Some last) number lines = take (last + 1 - number) lines
