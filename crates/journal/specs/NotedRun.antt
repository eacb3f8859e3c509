-- A run of steps, and its noted lines, which lead to the state of the run.
use Rattle.std.specs.Prelude.{◌≡◌, true, List, [], ◌∷◌, ◌++◌, Ok}
use Rattle.site_core.specs.declared.step.Step.{Step}
use Rattle.site_core.specs.declared.reply.Reply.{Reply}
use Rattle.site_core.specs.State.{MachineState}
use Rattle.site_core.specs.Step.{Steps}
use Rattle.version_store.specs.Recording.{forget, is_of_request}
use Rattle.journal.specs.Line.{LineState}
use Rattle.journal.specs.Restore.{restored, restored_lines}

-- The run from an old state to a new one, and the lines that were noted during it, in their order.
-- Each step is noted by a line that leads to its state, or is about a request and isn't noted.
pub data IsNotedRun : MachineState → List LineState → MachineState → Type 0 where
  begins : (old : MachineState) → IsNotedRun old [] old
  notes : (old state new : MachineState) (lines : List LineState) (line : LineState)
      → IsNotedRun old lines state → restored state line ≡ Ok new
      → IsNotedRun old (lines ++ line ∷ []) new
  passes : (old state new : MachineState) (lines : List LineState) (step : Step) (reply : Reply)
      → IsNotedRun old lines state → is_of_request step ≡ true → Steps state step reply new
      → IsNotedRun old lines new

-- The lines lead to the state of the run, except for the requests, which no line keeps.
abbrev pub NotedRunsAreRestored : Type 0
NotedRunsAreRestored =
    (old new : MachineState) (lines : List LineState) → IsNotedRun old lines new
    → restored_lines (forget old) lines ≡ Ok (forget new)
