-- The lines of a text, each with its line feed.
use Rattle.std.specs.Prelude.{ℕ, ◌≡◌, codes, List, ◌++◌, flat_map}
use Rattle.std.specs.List.{AllByRecursion}
use Rattle.journal.specs.Line.{HasNoLineFeed}

abbrev pub with_feed : List ℕ → List ℕ
with_feed line = line ++ codes "\n"

-- A text begins with these lines, each with its line feed, and continues with this rest.
pub record BeginsWithLines (text : List ℕ) (lines : List (List ℕ)) (rest : List ℕ) : Type 0 where
  pub is : text ≡ flat_map with_feed lines ++ rest
  pub each : AllByRecursion HasNoLineFeed lines

-- A text consists of these whole lines and a torn one: a last line without a line feed, or nothing.
pub record AreLinesOf (text : List ℕ) (lines : List (List ℕ)) (torn : List ℕ) : Type 0 where
  pub begins : BeginsWithLines text lines torn
  pub last : HasNoLineFeed torn

-- the first line of a text, without its line feed, and the text after that
pub record SplitsAtFeed (text line rest : List ℕ) : Type 0 where
  pub is : text ≡ with_feed line ++ rest
  pub first : HasNoLineFeed line

-- whole lines, or none, and a rest without a line feed
pub record SplitsAtLastFeed (text whole torn : List ℕ) : Type 0 where
  pub lines : List (List ℕ)
  pub are : AreLinesOf text lines torn
  pub whole_is : whole ≡ flat_map with_feed lines
