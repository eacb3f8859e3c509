-- Laws of audits along every history. Each is compared with the book that its point had when it was
-- begun, and each verdict is Unsettled, or one on that book and a reply that the point may have
-- sent.
use Rattle.std.specs.Prelude.{ℕ, ◌≡◌, ◌⊎◌, Bool, List, ◌∷◌, ◌++◌, Some, IfSome}
use Rattle.std.specs.List.{AllByRecursion}
use Rattle.site_rules.specs.Site.{place_of}
use Rattle.sweep_compiler.specs.Judged.{IsJudged}
use Rattle.sweep_compiler.specs.Verdict.{AuditRequest}
use Rattle.sweep_compiler.specs.declared.verdict.Verdict.{Verdict}
use Rattle.sweep_compiler.specs.declared.verdict.Verdict.TheVariants.{Unsettled}
use Rattle.site_core.specs.declared.step.Step.{Step}
use Rattle.site_core.specs.declared.step.Step.TheVariants as steps
use Rattle.site_core.specs.declared.reply.Reply.TheVariants as replies
use Rattle.site_core.specs.Audit.{AuditState}
use Rattle.site_core.specs.State.{MachineState, IsMachine, book_at, outbox_at, audit_at}
use Rattle.site_core.specs.History.{Event, Legal}

-- ---- the book of an audit

-- the Audit event that began an audit of a point
abbrev pub audit_event : List ℕ → AuditState → Event
audit_event point audit = record {
  step = steps.Audit point audit.asked.connector audit.asked.duration;
  reply = replies.Audited audit.number audit.asked.unit;
}

-- An audit of the point at a place was begun in these events from a state:
pub record IsBegunIn (old : MachineState) (events : List Event) (place : ℕ) (audit : AuditState)
    : Type 0 where
  -- There were events before it was begun,
  pub before : List Event
  -- there was the Audit of the point,
  pub point : List ℕ
  -- and there were events since,
  pub since : List Event
  -- and these are all the events, in this order.
  pub in_order : events ≡ before ++ audit_event point audit ∷ since
  -- The point is the one at this place.
  pub named : place_of old.site point ≡ Some place
  -- The central system was in a state then,
  pub state : MachineState
  -- the one to which the events before had led.
  pub reached : Legal old before state
  -- The book is the point's in that state,
  pub had : audit.asked.book ≡ book_at state place
  -- its call had the next number there,
  pub numbered : audit.number ≡ (outbox_at state place).next
  -- and the unit is the site's.
  pub in_unit : audit.asked.unit ≡ old.site.unit

-- the point at a place had an audit already, with the same request and the same call
pub record IsAuditBefore (old : MachineState) (place : ℕ) (audit : AuditState) : Type 0 where
  pub earlier : AuditState
  pub is_kept : audit_at old place ≡ Some earlier
  pub numbered : earlier.number ≡ audit.number
  pub asked : earlier.asked ≡ audit.asked

abbrev pub AuditsHaveTheirBooks : Type 0
AuditsHaveTheirBooks =
    (old : MachineState) (events : List Event) (new : MachineState)
    → IsMachine old → Legal old events new
    → (place : ℕ) (audit : AuditState) → audit_at new place ≡ Some audit
    → IsBegunIn old events place audit ⊎ IsAuditBefore old place audit

-- ---- its verdict

-- A verdict that a step brings is right for the audit that was judged. This holds of each step that
-- a machine makes, since no code can make a wrong `Judged`.
abbrev pub BringsRight : Step → Type 0
BringsRight (steps.Judge point call judged) =
    IsJudged judged.audit judged.verdict judged.short
BringsRight other = Unit {0}

abbrev pub AllBringRight : List Event → Type 0
AllBringRight events = AllByRecursion (λ (event : Event). BringsRight event.step) events

-- a kept verdict is one for its audit, or Unsettled, if the point's transactions had changed
abbrev pub IsRightVerdict : AuditRequest → Verdict → Type 0
IsRightVerdict asked verdict =
    ((short : Bool) × IsJudged asked verdict short) ⊎ (verdict ≡ Unsettled)

abbrev pub IsAuditRight : AuditState → Type 0
IsAuditRight audit = IfSome audit.verdict (IsRightVerdict audit.asked)

abbrev pub AreAuditsRight : MachineState → Type 0
AreAuditsRight state = (place : ℕ) → IfSome (audit_at state place) IsAuditRight

abbrev pub VerdictsStayRight : Type 0
VerdictsStayRight =
    (old : MachineState) (events : List Event) (new : MachineState)
    → IsMachine old → Legal old events new
    → AllBringRight events → AreAuditsRight old → AreAuditsRight new
