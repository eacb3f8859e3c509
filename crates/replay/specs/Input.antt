-- How many bytes a reader gave.
use Rattle.std.specs.Prelude.{ℕ, ◌<◌, ◌≤◌, List, length, Option}
use Rattle.std.specs.Io.KnownBytes.{Consumes}

-- between the two states a reader gave this many bytes at the most
abbrev pub GaveAtMost : Option (List ℕ) → Option (List ℕ) → ℕ → Type 0
GaveAtMost old new most = (bytes : List ℕ) × Consumes old new bytes × (length bytes ≤ most)

-- between the two states a reader gave more than this many bytes
abbrev pub GaveMoreThan : Option (List ℕ) → Option (List ℕ) → ℕ → Type 0
GaveMoreThan old new few = (bytes : List ℕ) × Consumes old new bytes × (few < length bytes)
