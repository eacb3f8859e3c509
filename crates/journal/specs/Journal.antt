-- The lines of a journal after its first one, and the state to which they lead.
use Rattle.std.specs.Prelude.{ℕ, ◌≡◌, ◌+◌, false, List, [], ◌∷◌, ◌++◌, length, map, Result, Ok, Err}
use Rattle.ocpp_scalars.specs.ResultSteps.{◌>>=◌}
use Rattle.site_core.specs.State.{MachineState}
use Rattle.journal.specs.declared.line_fault.LineFault.{LineFault}
use Rattle.journal.specs.declared.restore_fault.RestoreFault.{RestoreFault}
use Rattle.journal.specs.declared.restore_fault.RestoreFault.TheVariants.{Line}
use Rattle.journal.specs.declared.restored.Restored.{Restored}
use Rattle.journal.specs.declared.restored.Unrestored.{Unrestored}
use Rattle.journal.specs.ByCases.Line.{line_in}
use Rattle.journal.specs.Line.{LineState}
use Rattle.journal.specs.Lines.{BeginsWithLines, AreLinesOf}
use Rattle.journal.specs.Restore.{restored, restored_lines, IsFaultOf, is_made}

-- ---- the lines that are read

-- texts, without their line feeds, are read as these lines
abbrev pub AreReadAs : List (List ℕ) → List LineState → Type 0
AreReadAs texts lines = map line_in texts ≡ map Ok lines

-- ---- states

-- A text was restored whole, except for a torn line. Its lines are counted with the header.
pub record IsRestored (old : MachineState) (text : List ℕ) (restored : Restored)
    (new : MachineState) : Type 0 where
  pub texts : List (List ℕ)
  pub torn : List ℕ
  pub are : AreLinesOf text texts torn
  pub lines : List LineState
  pub read : AreReadAs texts lines
  pub leads : restored_lines old lines ≡ Ok new
  pub number : restored.lines ≡ length texts + 1

abbrev pub line_or_fault : Result LineState LineFault → Result LineState RestoreFault
line_or_fault (Ok line) = Ok line
line_or_fault (Err fault) = Err (Line fault)

-- the state after a line, given as bytes without its line feed
abbrev pub restored_bytes : MachineState → List ℕ → Result MachineState RestoreFault
restored_bytes state bytes = do
  line ← line_or_fault (line_in bytes)
  restored state line

-- The first line of a text that can't be restored, counted from 1 with the header, and its fault.
-- The lines before it lead to a state. There it changes nothing, or its step draws another number.
pub record IsUnrestored (old : MachineState) (text : List ℕ) (refused : Unrestored)
    (new : MachineState) : Type 0 where
  pub texts : List (List ℕ)
  pub line : List ℕ
  pub rest : List ℕ
  pub begins : BeginsWithLines text (texts ++ line ∷ []) rest
  pub lines : List LineState
  pub read : AreReadAs texts lines
  pub state : MachineState
  pub leads : restored_lines old lines ≡ Ok state
  pub number : refused.line ≡ length texts + 2
  pub fault : IsFaultOf (restored_bytes state line) refused.fault
  pub kept : is_made refused.fault ≡ false → new ≡ state
