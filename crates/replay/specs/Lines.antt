-- The lines of a script.
use Rattle.std.specs.Prelude.{ℕ, List}
use Rattle.std.specs.Str.Lines.{lines}

-- Each line ends with a line feed, which the last one may lack. A carriage return directly before a
-- line feed is no part of its line. These are the lines that Rust's `str::lines` gives.
abbrev pub script_lines : List ℕ → List (List ℕ)
script_lines text = lines text
