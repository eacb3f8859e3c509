-- The outcomes of the steps that a message requests, if each compile gives the exact schedule or
-- ResultTooLong, and of the steps for its point's link and calls.
use Rattle.std.specs.Prelude.{Bool, ℕ, List, false, Option, Some, None, Result, Ok, Err}
use Rattle.ocpp_scalars.specs.declared.refusal.Refusal.{Refusal}
use Rattle.ocpp_scalars.specs.declared.refusal.Refusal.TheVariants.{NothingInFlight}
use Rattle.messages.specs.declared.call.Call.{Call}
use Rattle.meaning.specs.declared.said.Said.{Said}
use Rattle.meaning.specs.Limit.{limit_asked}
use Rattle.meaning.specs.ByCases.Exact.{exact_schedule}
use Rattle.point_book.specs.Book.{state_of}
use Rattle.sweep_compiler.specs.Judged.{Judgement}
use Rattle.sweep_compiler.specs.Verdict.{AuditRequest}
use Rattle.sweep_compiler.specs.ByCases.Verdict.{verdict_of}
use Rattle.site_core.specs.declared.step.Step.{Step}
use Rattle.site_core.specs.declared.step.Step.TheVariants as steps
use Rattle.site_core.specs.declared.reply.Reply.{Reply}
use Rattle.site_core.specs.declared.reply.Reply.TheVariants.{Taken, Sent}
use Rattle.site_core.specs.State.{MachineState, Kept, ScheduleAnswer, audit_job, link_of}
use Rattle.site_core.specs.Requests.{request_of}
use Rattle.site_core.specs.Step.{Made, stepped, no_answer}
use Rattle.texts.specs.Said.{said_of}
use Rattle.texts.specs.SentText as texts

-- the outcome of a step: its reply and the state after it, or its refusal and the state before it
pub record Stepped : Type 0 where
  pub outcome : Result Reply Refusal
  pub after : MachineState

abbrev pub made_or_refused : MachineState → Result Made Refusal → Stepped
made_or_refused old (Ok made) = record { outcome = Ok made.reply; after = made.after }
made_or_refused old (Err refusal) = record { outcome = Err refusal; after = old }

-- the answer of a compile: the exact schedule for the state of the request's point when it was
-- taken, or the refusal of one that is too long (OCPP 1.6, 5.7)
abbrev pub exact_answer : Option Kept → ScheduleAnswer
exact_answer None = no_answer
exact_answer (Some kept) = exact_schedule
    (limit_asked (state_of kept.book) kept.ask.connector kept.ask.start) kept.ask.duration

abbrev pub answer_given : MachineState → Step → ScheduleAnswer
answer_given old (steps.Compile number) = exact_answer (request_of number old.requests)
answer_given old step = no_answer

-- one step of the central system
unfoldable pub stepped_exactly : MachineState → Step → Stepped
stepped_exactly old step = made_or_refused old (stepped (answer_given old step) old step)

-- a request is compiled, and then answered
abbrev pub handed_out : MachineState → ℕ → Stepped
handed_out taken number =
    stepped_exactly (stepped_exactly taken (steps.Compile number)).after (steps.Answer number)

abbrev pub at_once : Result Reply Refusal → MachineState → Stepped
at_once (Ok (Taken number book ask)) taken = handed_out taken number
at_once outcome after = record { outcome = outcome; after = after }

-- one step; if it takes a request, that is compiled and answered at once
abbrev pub stepped_at_once : MachineState → Step → Stepped
stepped_at_once old step =
    at_once (stepped_exactly old step).outcome (stepped_exactly old step).after

-- ---- links and calls (OCPP-J 1.6, 3 and 4)

-- a point has a link from its first message on
abbrev pub attached_unless : Option ℕ → MachineState → List ℕ → MachineState
attached_unless (Some link) old point = old
attached_unless None old point = (stepped_exactly old (steps.Attach point)).after

abbrev pub attached_once : MachineState → List ℕ → MachineState
attached_once old point = attached_unless (link_of old point) old point

-- the outcome of a Send: the call that goes out, if any, and the state after it
pub record Sending : Type 0 where
  pub call : Option Call
  pub after : MachineState

abbrev pub call_sent : Result Reply Refusal → Option Call
call_sent (Ok (Sent call)) = Some call
call_sent outcome = None

abbrev pub sending_of : Stepped → Sending
sending_of step = record { call = call_sent step.outcome; after = step.after }

-- a Send over a point's present link, if it has one, sends the first waiting call
abbrev pub sent_over : Option ℕ → MachineState → List ℕ → Sending
sent_over None old point = record { call = None; after = old }
sent_over (Some link) old point = sending_of (stepped_exactly old (steps.Send point link))

abbrev pub sent_first : MachineState → List ℕ → Sending
sent_first old point = sent_over (link_of old point) old point

-- a point has answered the call of a number; if that isn't in flight, nothing changes. Without a
-- link no call is in flight
abbrev pub confirmed_over : Option ℕ → MachineState → List ℕ → ℕ → Bool → Stepped
confirmed_over None old point number accepted =
    record { outcome = Err NothingInFlight; after = old }
confirmed_over (Some link) old point number accepted =
    stepped_exactly old (steps.Confirm point link number accepted)

abbrev pub confirmed_by : MachineState → List ℕ → ℕ → Bool → Stepped
confirmed_by old point number accepted =
    confirmed_over (link_of old point) old point number accepted

-- ---- replies to audits (OCPP 1.6, 5.7)

-- an audit is judged by its point's reply, if memory lasts
abbrev pub judged_exactly : AuditRequest → Said → Judgement
judged_exactly asked said =
    record { audit = asked; verdict = verdict_of asked said; short = false }

-- the verdict is kept on the audit of this number
abbrev pub verdict_kept : MachineState → List ℕ → ℕ → Judgement → MachineState
verdict_kept old point number judged =
    (stepped_exactly old (steps.Judge point number judged)).after

-- one state if a step was made, and another if it was refused
abbrev pub if_made : Result Reply Refusal → MachineState → MachineState → MachineState
if_made (Ok reply) made refused = made
if_made (Err refusal) made refused = refused

-- a point's reply is judged once the call is confirmed, if it is the call of its audit
abbrev pub reply_judged : List ℕ → ℕ → Option AuditRequest → Said → Stepped → MachineState
reply_judged point number None said confirmed = confirmed.after
reply_judged point number (Some asked) said confirmed =
    if_made confirmed.outcome
    (verdict_kept confirmed.after point number (judged_exactly asked said)) confirmed.after

-- a point has replied to the call of a number: the call is confirmed, and a reply to an audit
-- judged
abbrev pub replied_by : MachineState → texts.Sent → List ℕ → ℕ → Bool → Stepped
replied_by old text point number accepted = record {
  outcome = (confirmed_by old point number accepted).outcome;
  after = reply_judged point number (audit_job old point number) (said_of text)
      (confirmed_by old point number accepted);
}
