-- The effect of a line of a journal on the state, or the reason for which it can't be restored.
-- Each line is a step of the machine, which draws the numbers that the line has.
use Rattle.std.specs.Prelude.{ℕ, unsigned_abs, ◌≡◌, ◌≤◌, ◌⊎◌, ◌==◌, Bool, true, false, List, [], ◌∷◌, Option, Some, None, Result, Ok, Err, if◌then◌else◌}
use Rattle.ocpp_scalars.specs.ResultSteps.{◌>>=◌}
use Rattle.ocpp_scalars.specs.declared.refusal.Refusal.{Refusal}
use Rattle.ocpp_scalars.specs.declared.refusal.Refusal.TheVariants.{UnknownRequest}
use Rattle.meaning.specs.declared.said.Said.{Said}
use Rattle.messages.specs.declared.side.Side.TheVariants.{Point}
use Rattle.sweep_compiler.specs.Judged.{Judgement}
use Rattle.sweep_compiler.specs.Verdict.{AuditRequest}
use Rattle.sweep_compiler.specs.ByCases.Verdict.{verdict_of}
use Rattle.texts.specs.declared.asked.Asked.{Asked}
use Rattle.texts.specs.declared.asked.Asked.TheVariants as asked
use Rattle.texts.specs.Asked.{asked_of}
use Rattle.texts.specs.Said.{said_of}
use Rattle.texts.specs.SentText as texts
use Rattle.site_core.specs.declared.step.Step.{Step}
use Rattle.site_core.specs.declared.step.Step.TheVariants as steps
use Rattle.site_core.specs.declared.reply.Reply.{Reply}
use Rattle.site_core.specs.declared.reply.Reply.TheVariants as replies
use Rattle.site_core.specs.State.{MachineState, audit_job}
use Rattle.site_core.specs.Step.{Made, stepped, no_answer}
use Rattle.version_store.specs.Passes.{PassState}
use Rattle.journal.specs.declared.restore_fault.RestoreFault.{RestoreFault}
use Rattle.journal.specs.declared.restore_fault.RestoreFault.TheVariants.{OtherStep, Refused, Unchanged, OtherNumber, OutOfMemory}
use Rattle.journal.specs.Line.{NotedState, LineState, message, reply, verdict, attached, sent, lost, number_written, side_of_sender}

-- ---- the step of a line

-- a step of a message that changes something, or requests something of a point, or says that it has
-- booted. Requests for a schedule or a status change nothing that lasts
abbrev pub is_change : Step → Bool
is_change (steps.Install point row) = true
is_change (steps.Clear point criteria) = true
is_change (steps.Start point connector begin) = true
is_change (steps.Stop point number) = true
is_change (steps.Audit point connector duration) = true
is_change (steps.RemoteStart point connector id_tag profile) = true
is_change (steps.Boot point moment) = true
is_change step = false

-- the change that a message requests
abbrev pub change_asked : Asked → Result Step RestoreFault
change_asked (asked.Step id kind step) = if is_change step then Ok step else Err OtherStep
change_asked (asked.Boot id point moment) = Ok (steps.Boot point moment)
change_asked _ = Err OtherStep

-- the confirm that a point's reply requests, over this link
abbrev pub confirm_asked : ℕ → Asked → Result Step RestoreFault
confirm_asked link (asked.Confirm point call accepted) =
    Ok (steps.Confirm point link call accepted)
confirm_asked link _ = Err OtherStep

-- an audit is judged by its point's reply, if memory lasts
abbrev pub judged_exactly : AuditRequest → Said → Judgement
judged_exactly job said =
    record { audit = job; verdict = verdict_of job said; short = false }

-- the verdict on a reply to the audit, if that has none yet
abbrev pub judge_asked : List ℕ → ℕ → Said → Option AuditRequest → Result Step RestoreFault
judge_asked point call said None = Err (Refused UnknownRequest)
judge_asked point call said (Some job) = Ok (steps.Judge point call (judged_exactly job said))

-- the message of a line
abbrev pub reply_on : LineState → List ℕ → texts.Sent
reply_on line frame = texts.sent line.moment Point line.point frame

abbrev pub step_noted : MachineState → LineState → NotedState → Result Step RestoreFault
step_noted state line (message sender number frame) =
    change_asked (asked_of (texts.sent line.moment (side_of_sender sender) line.point frame))
step_noted state line (reply link frame) = confirm_asked link (asked_of (reply_on line frame))
step_noted state line (verdict call frame) =
    judge_asked line.point call (said_of (reply_on line frame)) (audit_job state line.point call)
step_noted state line (attached link) = Ok (steps.Attach line.point)
step_noted state line (sent link call) = Ok (steps.Send line.point link)
step_noted state line (lost link) = Ok (steps.Lost line.point link)

-- ---- the number that a step draws

-- The number of a step with this reply that left the store at this version: the transaction's, the
-- call's, the link's, at a boot that of the first unconfirmed call, or else the version. None if
-- nothing changed, or nothing was drawn.
abbrev pub number_drawn : Reply → ℕ → Option ℕ
number_drawn replies.Accepted version = Some version
number_drawn (replies.Started id) version = Some (unsigned_abs id)
number_drawn replies.Ended version = Some version
number_drawn (replies.Audited call unit) version = Some call
number_drawn (replies.Called call) version = Some call
number_drawn (replies.Attached link) version = Some link
number_drawn (replies.Sent call) version = Some call.number
number_drawn (replies.Booted first) version = Some first
number_drawn other version = None

-- a number that is written has to be the drawn one
abbrev pub number_fault : Option ℕ → Option ℕ → Option RestoreFault
number_fault None drawn = None
number_fault (Some written) None = Some Unchanged
number_fault (Some written) (Some drawn) =
    if written == drawn then None else Some (OtherNumber written drawn)

-- ---- the whole line

abbrev pub unless_fault : {X : Type 0} → Option RestoreFault → X → Result X RestoreFault
unless_fault (Some fault) x = Err fault
unless_fault None x = Ok x

abbrev pub made_or_refused : Result Made Refusal → Result Made RestoreFault
made_or_refused (Ok made) = Ok made
made_or_refused (Err refusal) = Err (Refused refusal)

-- a step is made, and draws the written number
abbrev pub made_with : MachineState → Option ℕ → Step → Result MachineState RestoreFault
made_with state written step = do
  made ← made_or_refused (stepped no_answer state step)
  unless_fault
      (number_fault written (number_drawn made.reply made.after.numbers.version)) made.after

-- the state after a line, if memory lasts
unfoldable pub restored : MachineState → LineState → Result MachineState RestoreFault
restored state line = do
  step ← step_noted state line line.noted
  made_with state (number_written line.noted) step

-- the state after lines, one after another, or the fault of the first that has one
abbrev pub restored_lines : MachineState → List LineState → Result MachineState RestoreFault
restored_lines state [] = Ok state
restored_lines state (line ∷ lines) = do
  next ← restored state line
  restored_lines next lines

-- the reason for which a line isn't restored: its fault, or memory ran out
abbrev pub IsFaultOf : {A : Type 0} → Result A RestoreFault → RestoreFault → Type 0
IsFaultOf result fault = (result ≡ Err fault) ⊎ (fault ≡ OutOfMemory)

-- whether the step of a line with this fault was made even so
abbrev pub is_made : RestoreFault → Bool
is_made (OtherNumber written drawn) = true
is_made fault = false

-- ---- passes

-- the counters of a pass don't decrease
pub record KeepsPass (old new : PassState) : Type 0 where
  pub changes : old.totals.changes ≤ new.totals.changes
  pub answers : old.totals.answers ≤ new.totals.answers
  pub seen : old.seen ≤ new.seen
