-- The audit of a charge point (this system's own). The point's composite schedule is requested
-- (OCPP 1.6, 5.7), and its reply is judged by the book that it had at the request.
use Rattle.std.specs.Prelude.{ℕ, ◌==◌, Bool, true, false, List, Option, Some, None, is_some, not, ◌&&◌, if◌then◌else◌}
use Rattle.profile.specs.declared.unit.Unit.{Unit}
use Rattle.transactions.specs.declared.transaction.Transaction.{Transaction}
use Rattle.messages.specs.declared.call.Call.{Call}
use Rattle.messages.specs.declared.response.AuditOutcome.{AuditOutcome}
use Rattle.messages.specs.declared.response.AuditOutcome.TheVariants as outcomes
use Rattle.point_book.specs.Book.{BookState}
use Rattle.sweep_compiler.specs.Verdict.{AuditRequest}
use Rattle.sweep_compiler.specs.declared.verdict.Verdict.{Verdict}
use Rattle.sweep_compiler.specs.declared.verdict.Verdict.TheVariants.{Agrees, Differs, Rejected, Unsettled}
use Rattle.site_core.specs.Equal.{same_transactions}
use Rattle.site_core.specs.Outbox.{is_unconfirmed}

pub record AuditState : Type 0 where
  -- the number of its call
  pub number : ℕ
  -- the request to the point, with the book that it had then
  pub asked : AuditRequest
  -- none before the reply is judged
  pub verdict : Option Verdict

-- an audit whose call has this number, of a point with this book
abbrev pub begun_audit : ℕ → BookState → ℕ → ℕ → Unit → AuditState
begun_audit number book connector duration unit = record {
  number = number;
  asked = record { book = book; connector = connector; duration = duration; unit = unit };
  verdict = None;
}

-- an audit is open while its call waits among these
abbrev pub is_open_among : List Call → Option AuditState → Bool
is_open_among calls None = false
is_open_among calls (Some audit) = is_unconfirmed calls audit.number

-- the audit of this number, while it has no verdict
abbrev pub unjudged : ℕ → Option AuditState → Option AuditState
unjudged number None = None
unjudged number (Some audit) =
    if (audit.number == number) && not (is_some audit.verdict) then Some audit else None

-- The meaning of a schedule depends on the transactions. Once they have changed since the request,
-- neither agreement nor difference says anything about the point.
abbrev pub settled : Bool → Verdict → Verdict
settled true verdict = verdict
settled false Agrees = Unsettled
settled false Differs = Unsettled
settled false Rejected = Rejected
settled false Unsettled = Unsettled

-- the verdict to keep, if the point has these transactions now
abbrev pub kept_verdict : BookState → List (Option Transaction) → Verdict → Verdict
kept_verdict book now verdict = settled (same_transactions book.transactions now) verdict

abbrev pub judged_audit : List (Option Transaction) → Verdict → Option AuditState
    → Option AuditState
judged_audit now verdict None = None
judged_audit now verdict (Some audit) =
    Some (record audit { verdict = Some (kept_verdict audit.asked.book now verdict) })

-- its outcome, as a status reports it
abbrev pub outcome_of_verdict : Option Verdict → AuditOutcome
outcome_of_verdict None = outcomes.Waiting
outcome_of_verdict (Some Agrees) = outcomes.Agrees
outcome_of_verdict (Some Differs) = outcomes.Differs
outcome_of_verdict (Some Rejected) = outcomes.Rejected
outcome_of_verdict (Some Unsettled) = outcomes.Unsettled

abbrev pub audit_outcome : Option AuditState → AuditOutcome
audit_outcome None = outcomes.NoAudit
audit_outcome (Some audit) = outcome_of_verdict audit.verdict
