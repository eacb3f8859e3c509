-- After a start no point has a link, and the journal says so.
use Rattle.std.specs.Prelude.{◌≡◌, ℕ, List, ◌++◌, flat_map, None, Ok}
use Rattle.std.specs.List.{AllByRecursion}
use Rattle.site_core.specs.State.{MachineState, link_of}
use Rattle.journal.specs.Line.{LineState, lost, line_text}
use Rattle.journal.specs.Restore.{restored_lines}

abbrev pub HasNoLinks : MachineState → Type 0
HasNoLinks state = (point : List ℕ) → link_of state point ≡ None

-- a line that says that a link was lost at a moment
pub record IsLossAt (moment : ℕ) (line : LineState) : Type 0 where
  pub at : line.moment ≡ moment
  pub link : ℕ
  pub noted : line.noted ≡ lost link

-- The appended lines note the lost links, and lead from the old state to the new one.
pub record LosesLinks (moment : ℕ) (old new : MachineState) (before behind : List ℕ) : Type 0 where
  pub lines : List LineState
  pub losses : AllByRecursion (IsLossAt moment) lines
  pub appended : behind ≡ before ++ flat_map line_text lines
  pub leads : restored_lines old lines ≡ Ok new
