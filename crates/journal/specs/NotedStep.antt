-- The noted event of a step, whose line leads to the step's state.
use Rattle.std.specs.Prelude.{ℕ, ◌≡◌, Bool, List, Option, Some, None, Ok, if◌then◌else◌}
use Rattle.messages.specs.declared.call.Call.{Call}
use Rattle.messages.specs.declared.side.Side.TheVariants.{Point}
use Rattle.sweep_compiler.specs.Verdict.{AuditRequest}
use Rattle.texts.specs.declared.asked.Asked.TheVariants as asked
use Rattle.texts.specs.Asked.{asked_of}
use Rattle.texts.specs.Said.{said_of}
use Rattle.texts.specs.SentText.{Sent}
use Rattle.site_core.specs.declared.step.Step.{Step}
use Rattle.site_core.specs.declared.step.Step.TheVariants as steps
use Rattle.site_core.specs.declared.reply.Reply.TheVariants as replies
use Rattle.site_core.specs.State.{MachineState, audit_job}
use Rattle.site_core.specs.Step.{Made, stepped, no_answer}
use Rattle.journal.specs.Line.{SenderState, NotedState, LineState, message, reply, verdict, attached, sent, lost, side_of_sender}
use Rattle.journal.specs.Restore.{is_change, change_asked, judged_exactly, number_drawn, restored}

-- the event to note of a step that a message requests, with 0 for the number that it draws: none
-- for a request for a schedule or a status
abbrev pub noted_by : Step → SenderState → List ℕ → Option NotedState
noted_by (steps.Confirm point link call accepted) sender frame = Some (reply link frame)
noted_by step sender frame = if is_change step then Some (message sender 0 frame) else None

-- ---- each line leads to the state of its step

abbrev pub line_at : ℕ → List ℕ → NotedState → LineState
line_at moment point noted = record { moment = moment; point = point; noted = noted }

-- a step was made, and its line leads to the same state
abbrev pub IsStep : MachineState → Step → Made → Type 0
IsStep state step made = stepped no_answer state step ≡ Ok made

abbrev pub LeadsTo : MachineState → LineState → Made → Type 0
LeadsTo state line made = restored state line ≡ Ok made.after

-- a change that was made and drew a number, whatever the name of the sender
abbrev pub ChangesAreRestored : Type 0
ChangesAreRestored =
    (state : MachineState) (text : Sent) (sender : SenderState)
    (step : Step) (made : Made) (number : ℕ)
    → side_of_sender sender ≡ text.sender
    → change_asked (asked_of text) ≡ Ok step → IsStep state step made
    → number_drawn made.reply made.after.numbers.version ≡ Some number
    → LeadsTo state (line_at text.moment text.point (message sender number text.frame)) made

-- a point's reply that confirmed a call
abbrev pub ConfirmsAreRestored : Type 0
ConfirmsAreRestored =
    (state : MachineState) (text : Sent) (link call : ℕ) (accepted : Bool) (made : Made)
    → text.sender ≡ Point → asked_of text ≡ asked.Confirm text.point call accepted
    → IsStep state (steps.Confirm text.point link call accepted) made
    → LeadsTo state (line_at text.moment text.point (reply link text.frame)) made

-- a verdict that was kept, if memory lasted for it
abbrev pub VerdictsAreRestored : Type 0
VerdictsAreRestored =
    (state : MachineState) (text : Sent) (call : ℕ) (job : AuditRequest) (made : Made)
    → text.sender ≡ Point → audit_job state text.point call ≡ Some job
    → IsStep state (steps.Judge text.point call (judged_exactly job (said_of text))) made
    → LeadsTo state (line_at text.moment text.point (verdict call text.frame)) made

-- a link that a point got, a call that went out, and a link that was lost
abbrev pub LinksAreRestored : Type 0
LinksAreRestored =
    (state : MachineState) (moment : ℕ) (point : List ℕ) (link : ℕ) (made : Made)
    → IsStep state (steps.Attach point) made → made.reply ≡ replies.Attached link
    → LeadsTo state (line_at moment point (attached link)) made

abbrev pub SendsAreRestored : Type 0
SendsAreRestored =
    (state : MachineState) (moment : ℕ) (point : List ℕ) (link : ℕ) (call : Call) (made : Made)
    → IsStep state (steps.Send point link) made → made.reply ≡ replies.Sent call
    → LeadsTo state (line_at moment point (sent link call.number)) made

abbrev pub LossesAreRestored : Type 0
LossesAreRestored =
    (state : MachineState) (moment : ℕ) (point : List ℕ) (link : ℕ) (made : Made)
    → IsStep state (steps.Lost point link) made
    → LeadsTo state (line_at moment point (lost link)) made
