-- Lines, and the lines recovered after a crash.
use Rattle.std.specs.Prelude.{ℕ, ◌≢◌, ◌==◌, if◌then◌else◌, List, [], ◌∷◌, ◌++◌, flat_map}
use Rattle.std.specs.List.{AllByRecursion}
use Rattle.append_log.specs.Contents.{IsFirstPart}

-- in ASCII
abbrev pub line_feed : ℕ
line_feed = 10

-- A byte in front of the whole lines behind it. It belongs to them if there are any, or if it is a
-- line feed.
abbrev pub before : ℕ → List ℕ → List ℕ
before byte [] = if byte == line_feed then byte ∷ [] else []
before byte (next ∷ rest) = byte ∷ next ∷ rest

-- the bytes recovered from a file: all up to its last line feed, including it
abbrev pub whole_lines : List ℕ → List ℕ
whole_lines [] = []
whole_lines (byte ∷ rest) = before byte (whole_lines rest)

abbrev pub HasNoLineFeed : List ℕ → Type 0
HasNoLineFeed line = AllByRecursion (λ byte. byte ≢ line_feed) line

-- lines, each with its line feed
abbrev pub text_of : List (List ℕ) → List ℕ
text_of lines = flat_map (λ line. line ++ line_feed ∷ []) lines

-- The bytes left have at least the whole lines of the one text, and at most those of the other.
pub record HasLinesBetween (fewest most left : List ℕ) : Type 0 where
  pub no_fewer : IsFirstPart (whole_lines fewest) (whole_lines left)
  pub no_others : IsFirstPart (whole_lines left) (whole_lines most)

-- the bytes left have at least the whole lines of this text
abbrev pub HasLinesOf : List ℕ → List ℕ → Type 0
HasLinesOf fewest left = IsFirstPart (whole_lines fewest) (whole_lines left)
