-- The effect of a point's reply to its audit, beside the Confirm that it asks for.
use Rattle.std.specs.Prelude.{◌≡◌, ◌⊎◌, ℕ, Bool, true, false, List, codes, Option, None, IfSome, option_map}
use Rattle.ocpp_scalars.specs.declared.refusal.Refusal.{Refusal}
use Rattle.sweep_compiler.specs.declared.verdict.Verdict.TheVariants.{Unsettled}
use Rattle.sweep_compiler.specs.Judged.{Judgement, IsVerdictFor}
use Rattle.sweep_compiler.specs.Verdict.{AuditRequest, IsVerdict}
use Rattle.site_core.specs.declared.step.Step.{Step}
use Rattle.site_core.specs.declared.step.Step.TheVariants as steps
use Rattle.site_core.specs.declared.reply.Reply.TheVariants.{Confirmed, VerdictKept}
use Rattle.site_core.specs.State.{MachineState, audit_job}
use Rattle.version_store.specs.Store.{StoreState, IsStore}
use Rattle.version_store.specs.Calls.{Makes, IsRefusalOf}
use Rattle.texts.specs.SentText.{Sent}
use Rattle.texts.specs.Said.{said_of}
use Rattle.session.specs.declared.outcome.Outcome.TheVariants.{Made}
use Rattle.session.specs.declared.outcome.Performed.{Performed}
use Rattle.session.specs.declared.outcome.Performed.TheVariants.{Outcome}

-- an audit that has no verdict yet, by its point and the number of its call
pub record OpenAudit : Type 0 where
  pub point : List ℕ
  pub call : ℕ
  -- the request of the audit, and the point's book then
  pub asked : AuditRequest

-- the audit that a step replies to, if it confirms the call of the point's audit
abbrev pub audit_confirmed : MachineState → Step → Option OpenAudit
audit_confirmed state (steps.Confirm point link call accepted) = option_map
    (λ (asked : AuditRequest). record { point = point; call = call; asked = asked })
    (audit_job state point call)
audit_confirmed state step = None

-- The audit was judged by the message. If memory ran out, the verdict is Unsettled.
pub record IsJudgedBy (text : Sent) (asked : AuditRequest) (judged : Judgement) : Type 0 where
  pub audit : judged.audit ≡ asked
  pub right : IsVerdictFor asked (said_of text) judged.verdict judged.short
      ⊎ (judged.verdict ≡ Unsettled)

-- ---- the reply that is noted with a verdict

-- a reply that reads as no schedule
abbrev pub unread_reply : List ℕ
unread_reply = codes "[3,\"\",{\"status\":\"Accepted\"}]"

-- the reply as it came or, if memory ran out for it, one that reads as no schedule
abbrev pub reply_noted : Bool → List ℕ → List ℕ
reply_noted false frame = frame
reply_noted true frame = unread_reply

-- The verdict is the one on that reply, so a restore comes to the same one. On a reply that reads
-- as no schedule it is Unsettled.
abbrev pub IsVerdictNoted : Sent → Judgement → Bool → Type 0
IsVerdictNoted text judged false = IsVerdict judged.audit (said_of text) judged.verdict
IsVerdictNoted text judged true = judged.verdict ≡ Unsettled

-- ---- the Judge step of a verdict

-- a Judge is made, or refused: the audit was replaced or judged meanwhile, the store was stopped,
-- or memory ran out
abbrev pub MakesOrRefuses : StoreState → Step → StoreState → Type 0
MakesOrRefuses old judge new =
    Makes old judge VerdictKept new
    ⊎ ((refusal : Refusal) × IsRefusalOf old judge refusal × (new ≡ old))

-- The verdict on the message was brought to the book while the session had its lock once more.
pub record BringsVerdict (text : Sent) (audit : OpenAudit) : Type 0 where
  pub judged : Judgement
  pub is_judged : IsJudgedBy text audit.asked judged
  pub old : StoreState
  pub new : StoreState
  pub store : IsStore old
  pub brought : MakesOrRefuses old (steps.Judge audit.point audit.call judged) new

-- the audit whose reply is judged: its call was confirmed
abbrev pub audit_to_judge : Performed → Option OpenAudit → Option OpenAudit
audit_to_judge (Outcome (Made Confirmed)) audit = audit
audit_to_judge performed audit = None

abbrev pub JudgesReply : Sent → Performed → Option OpenAudit → Type 0
JudgesReply text performed audit =
    IfSome (audit_to_judge performed audit) (BringsVerdict text)
