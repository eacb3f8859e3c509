-- The line of a verdict that was kept leads where its step led.
use Rattle.std.proofs.Common.{◌≡◌, ◌↔◌, ℕ, List, Bool, true, false, cond, Option, Some, None, option_map, Result, Ok, Err, refl, sym, ap, subst}
use Rattle.ocpp_scalars.specs.ResultSteps.{◌>>=◌}
use Rattle.ocpp_scalars.specs.declared.refusal.Refusal.{Refusal}
use Rattle.ocpp_scalars.specs.declared.refusal.Refusal.TheVariants as refusals
use Rattle.meaning.specs.declared.said.Said.{Said}
use Rattle.messages.specs.declared.side.Side.TheVariants.{Point}
use Rattle.sweep_compiler.specs.declared.verdict.Verdict.{Verdict}
use Rattle.sweep_compiler.specs.Judged.{Judgement}
use Rattle.sweep_compiler.specs.Verdict.{AuditRequest, IsVerdict}
use Rattle.sweep_compiler.specs.ByCases.Verdict.{verdict_of}
use Rattle.site_core.specs.declared.step.Step.TheVariants as steps
use Rattle.site_core.specs.declared.reply.Reply.{Reply}
use Rattle.site_core.specs.declared.reply.Reply.TheVariants.{VerdictKept}
use Rattle.site_core.specs.Audit.{AuditState, unjudged}
use Rattle.site_core.specs.Equal.{AreOne, same_request}
use Rattle.site_core.specs.State.{MachineState, point_at, audit_at, audit_job, audit_job_at}
use Rattle.site_core.specs.Step.{Made, found_place, judges, judges_audit, made_at, of_audit}
use Rattle.journal.specs.Line.{verdict}
use Rattle.journal.specs.NotedStep.{VerdictsAreRestored, IsStep, LeadsTo, line_at}
use Rattle.texts.specs.Said.{said_of}
use Rattle.texts.specs.SentText.{Sent}

-- ---- the audit that a Judge was made of has no verdict yet

by_test : (audit : AuditState) (judged : Judgement) (next : Reply → Result Made Refusal)
    (made : Made) (same : Bool) → AreOne same_request
    → same_request audit.asked judged.audit ≡ same
    → (cond same (Ok VerdictKept) (Err refusals.StrangerInput) >>= next) ≡ Ok made
    → audit.asked ≡ judged.audit
by_test audit judged next made true one is led = (one audit.asked judged.audit).0 is
by_test audit judged next made false one is led = absurd (cc led)

by_audit : (found : Option AuditState) (judged : Judgement) (next : Reply → Result Made Refusal)
    (made : Made) → AreOne same_request → (judges_audit judged found >>= next) ≡ Ok made
    → option_map (λ (audit : AuditState). audit.asked) found ≡ Some judged.audit
by_audit None judged next made one led = absurd (cc led)
by_audit (Some audit) judged next made one led =
    ap Some (by_test audit judged next made (same_request audit.asked judged.audit) one refl led)

-- the result of a Judge at the point at a place
abbrev judged_there : MachineState → List ℕ → ℕ → Judgement → ℕ → Result Made Refusal
judged_there state point call judged place =
    judges call judged (point_at state place) >>= (λ (reply : Reply).
    Ok (made_at state (steps.Judge point call judged) place reply))

-- the place where a Judge is made, given the place that its point has in the site
abbrev judged_place : MachineState → List ℕ → ℕ → Judgement → Option ℕ → Result ℕ Refusal
judged_place state point call judged place =
    found_place state (of_audit point (judges call judged)).via place

by_place : (state : MachineState) (point : List ℕ) (call : ℕ) (judged : Judgement) (made : Made)
    (place : Option ℕ) → AreOne same_request
    → (judged_place state point call judged place >>= judged_there state point call judged) ≡ Ok made
    → audit_job_at state place call ≡ Some judged.audit
by_place state point call judged made None one led = absurd (cc led)
by_place state point call judged made (Some place) one led =
    by_audit (unjudged call (audit_at state place)) judged
    (λ (reply : Reply). Ok (made_at state (steps.Judge point call judged) place reply)) made one led

unless_stopped : (state : MachineState) (point : List ℕ) (call : ℕ) (judged : Judgement)
    (made : Made) (place : Option ℕ) (stopped : Bool) → AreOne same_request
    → (cond stopped (Err refusals.Stopped) (judged_place state point call judged place)
    >>= judged_there state point call judged) ≡ Ok made
    → audit_job_at state place call ≡ Some judged.audit
unless_stopped state point call judged made place true one led = absurd (cc led)
unless_stopped state point call judged made place false one led =
    by_place state point call judged made place one led

open_audit : (state : MachineState) (point : List ℕ) (call : ℕ) (judged : Judgement) (made : Made)
    → AreOne same_request → IsStep state (steps.Judge point call judged) made
    → audit_job state point call ≡ Some judged.audit
open_audit state point call judged made one led =
    unless_stopped state point call judged made _ state.is_stopped one led

-- ---- the step doesn't depend on whether memory ran out

abbrev judgement : AuditRequest → Verdict → Judgement
judgement asked found = record { audit = asked; verdict = found; short = false }

in_full : (state : MachineState) (point : List ℕ) (call : ℕ) (judged : Judgement) (made : Made)
    → IsStep state (steps.Judge point call judged) made
    → IsStep state (steps.Judge point call (judgement judged.audit judged.verdict)) made
in_full state point call judged made led = led

-- ---- its line

abbrev pub AreComputed : Type 0
AreComputed = (asked : AuditRequest) (said : Said) (found : Verdict)
    → IsVerdict asked said found ↔ (verdict_of asked said ≡ found)

pub verdict_leads : (state : MachineState) (text : Sent) (call : ℕ) (judged : Judgement)
    (made : Made) → VerdictsAreRestored → AreOne same_request → AreComputed
    → text.sender ≡ Point → IsVerdict judged.audit (said_of text) judged.verdict
    → IsStep state (steps.Judge text.point call judged) made
    → LeadsTo state (line_at text.moment text.point (verdict call text.frame)) made
verdict_leads state text call judged made law one computed sender right led =
    law state text call judged.audit made sender
    (open_audit state text.point call judged made one led)
    (subst (λ (v : Verdict).
    IsStep state (steps.Judge text.point call (judgement judged.audit v)) made)
    (sym ((computed judged.audit (said_of text) judged.verdict).0 right))
    (in_full state text.point call judged made led))
