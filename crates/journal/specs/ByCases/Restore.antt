-- For private clauses: the result of a part of a restore.
use Rattle.std.specs.Prelude.{ℕ, ◌≡◌, false, List, Option, Some, None, Result, Ok, OnOk, IfErr}
use Rattle.ocpp_scalars.specs.ResultSteps.{◌>>=◌}
use Rattle.meaning.specs.declared.said.Said.{Said}
use Rattle.sweep_compiler.specs.Verdict.{AuditRequest}
use Rattle.texts.specs.declared.asked.Asked.{Asked}
use Rattle.site_core.specs.State.{MachineState}
use Rattle.journal.specs.declared.restore_fault.RestoreFault.{RestoreFault}
use Rattle.journal.specs.ByCases.Line.{line_in}
use Rattle.journal.specs.Line.{LineState}
use Rattle.journal.specs.Restore.{IsFaultOf, change_asked, confirm_asked, judge_asked, is_made, made_with, restored}

-- The new state is the wanted one, or a fault is named. With a fault, only another number has
-- changed the old state.
pub record Leads {A : Type 0} (wanted : Result MachineState RestoreFault)
    (old : MachineState) (result : Result A RestoreFault) (new : MachineState) : Type 0 where
  pub done : OnOk result (wanted ≡ Ok new)
  pub fault : IfErr result (IsFaultOf wanted)
  pub kept : IfErr result (λ fault. is_made fault ≡ false → new ≡ old)

-- the state after the change that a message requests, with the written number
abbrev pub changed : MachineState → ℕ → Asked → Result MachineState RestoreFault
changed state number asked = do
  step ← change_asked asked
  made_with state (Some number) step

-- the state after a reply that confirms a call over this link
abbrev pub confirmed : MachineState → ℕ → Asked → Result MachineState RestoreFault
confirmed state link asked = do
  step ← confirm_asked link asked
  made_with state None step

-- the state after the verdict on a point's reply
abbrev pub judged : MachineState → List ℕ → ℕ → Said → Option AuditRequest
    → Result MachineState RestoreFault
judged state point call said job = do
  step ← judge_asked point call said job
  made_with state None step

-- bytes are read as a line, which leads to the new state
pub record LeadsByLine (old : MachineState) (bytes : List ℕ) (new : MachineState) : Type 0 where
  pub line : LineState
  pub read : line_in bytes ≡ Ok line
  pub leads : restored old line ≡ Ok new
