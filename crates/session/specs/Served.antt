-- The answer to a message of a session, whose step was made on the book that all sessions share.
use Rattle.std.specs.Prelude.{◌≡◌, ◌⊎◌, Bool, List, ℕ, Option, Some, None}
use Rattle.ocpp_scalars.specs.declared.instant.Instant.{Instant}
use Rattle.ocpp_scalars.specs.declared.refusal.Refusal.TheVariants.{OutOfMemory, UnknownRequest}
use Rattle.site_core.specs.declared.step.Step.{Step}
use Rattle.site_core.specs.Right.{IsRight}
use Rattle.site_core.specs.State.{MachineState}
use Rattle.version_store.specs.Answers.{RequestedJob, HandedAnswer}
use Rattle.version_store.specs.Passes.{PassState}
use Rattle.version_store.specs.Recording.{IsAt}
use Rattle.version_store.specs.Store.{StoreState, IsStore}
use Rattle.texts.specs.SentText.{Sent}
use Rattle.session.specs.declared.todo.Owed.{Owed}
use Rattle.session.specs.declared.outcome.Outcome.{Outcome}
use Rattle.session.specs.declared.outcome.Outcome.TheVariants.{Made, Answered, Refused}
use Rattle.session.specs.declared.outcome.Performed.{Performed}
use Rattle.session.specs.declared.outcome.Performed.TheVariants as performs
use Rattle.session.specs.Audit.{OpenAudit, audit_confirmed, JudgesReply}
use Rattle.session.specs.Perform.{Performs}
use Rattle.session.specs.Session.{SessionState}
use Rattle.session.specs.Todo.{TodoState, IsTodo, IsUnnoted, todo_of, answer_text}

-- An answer is that of a job: for the request of the job's number, with the book and the `Ask` that
-- the Take of that request kept. It is right for these.
pub record IsAnswerTo (job : RequestedJob) (handed : HandedAnswer) : Type 0 where
  pub number : handed.number ≡ job.number
  pub book : handed.book ≡ job.book
  pub ask : handed.ask ≡ job.ask
  pub right : IsRight job.book job.ask handed.answer

-- the outcome of a request that is kept: its own answer, or a refusal if the session gets none
abbrev pub IsOutcomeOfJob : RequestedJob → Outcome → Type 0
IsOutcomeOfJob job (Made reply) = ⊥
IsOutcomeOfJob job (Answered handed) = IsAnswerTo job handed
IsOutcomeOfJob job (Refused refusal) = (refusal ≡ UnknownRequest) ⊎ (refusal ≡ OutOfMemory)

-- the outcome of the call on the book that was performed for a step
abbrev pub ComesTo : Performed → Outcome → Type 0
ComesTo (performs.Job job) outcome = IsOutcomeOfJob job outcome
ComesTo (performs.Outcome made) outcome = outcome ≡ made

-- The one call on the book that makes a step was made while the session had the lock. The audit
-- that the step replies to, if it does, was read just before. The record ended with the state after
-- it.
pub record IsPerformed (was : PassState) (seen : MachineState → Type 0) (step : Step)
    (performed : Performed) (audit : Option OpenAudit) : Type 0 where
  pub old : StoreState
  pub new : StoreState
  pub pass : PassState
  pub store : IsStore old
  pub performs : Performs old was step performed new pass
  pub audit_is : audit ≡ audit_confirmed old.present step
  pub is_seen : seen new.present

-- The outcome of a session's own step. For a request for a schedule it is the answer that is right
-- for the point's state at this very Take. A point's reply to its audit is judged.
pub record IsOutcomeOf (was : PassState) (seen : MachineState → Type 0) (text : Sent) (step : Step)
    (outcome : Outcome) : Type 0 where
  pub performed : Performed
  pub audit : Option OpenAudit
  pub is_performed : IsPerformed was seen step performed audit
  pub comes : ComesTo performed outcome
  pub judges : JudgesReply text performed audit

-- a message without a step has no outcome
abbrev pub HasOutcome : PassState → (MachineState → Type 0) → Sent → Option Step → Option Outcome
    → Type 0
HasOutcome was seen text None None = Unit {0}
HasOutcome was seen text (Some step) (Some outcome) = IsOutcomeOf was seen text step outcome
HasOutcome was seen text _ _ = ⊥

-- whether the record by a step, if there was one, ended with a state
abbrev pub seen_at : Bool → Option (List MachineState) → MachineState → Type 0
seen_at is_recorded None state = ⊥
seen_at is_recorded (Some seen) state = IsAt is_recorded seen state

-- the work for a message, or the answer alone if its step can't be noted
abbrev pub IsTodoOrUnnoted : SessionState → Instant → List ℕ → TodoState → Type 0
IsTodoOrUnnoted session now text todo =
    IsTodo session now text todo ⊎ IsUnnoted (todo_of session now text).owed todo

-- the answer to a message whose step can't be noted, by the answer that its sender is owed
pub record IsUnmade (session : SessionState) (owed : Owed) (answer : Option (List ℕ))
    : Type 0 where
  pub todo : TodoState
  pub unnoted : IsUnnoted owed todo
  pub answer_is : answer ≡ answer_text session todo None

-- the answer to a message of a session with this pass: the message that is owed for the request,
-- with the outcome of the step that was requested
pub record IsServed (session : SessionState) (was : PassState) (seen : MachineState → Type 0)
    (text : Sent) (answer : Option (List ℕ)) : Type 0 where
  pub todo : TodoState
  pub outcome : Option Outcome
  pub asked : IsTodoOrUnnoted session text.moment text.frame todo
  pub made : HasOutcome was seen text todo.step outcome
  pub answer_is : answer ≡ answer_text session todo outcome
