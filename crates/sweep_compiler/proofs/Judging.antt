-- The verdict on a schedule that a point reports is the verdict of the audit.
use Rattle.std.proofs.Common.{◌≡◌, ℕ, List, Option, Some, None, Result, Ok, Err, IfOk, refl, sym}
use Rattle.std.specs.Option.{unwrap_or}
use Rattle.profile.specs.declared.unit.Unit.{Unit}
use Rattle.meaning.specs.declared.composite.CompositePeriod.{CompositePeriod}
use Rattle.meaning.specs.declared.said.Said.TheVariants.{Schedule}
use Rattle.meaning.specs.Composite.{CompositeSchedule}
use Rattle.sweep_compiler.specs.declared.verdict.Verdict.{Verdict}
use Rattle.sweep_compiler.specs.Verdict.{AuditRequest, said_duration, said_schedule, IsVerdictOn, IsVerdict}

pub lasts : (duration : Option ℕ) (audit : AuditRequest) → unwrap_or duration audit.duration ≡ said_duration duration audit
lasts None audit = refl
lasts (Some duration) audit = refl

pub verdict_said : {E : Type 0} (audit : AuditRequest) (start : ℕ) (duration : Option ℕ) (unit : Unit) (periods : List CompositePeriod)
    (schedule : CompositeSchedule) (result : Result Verdict E)
    → schedule ≡ said_schedule duration periods audit → unit ≡ audit.unit
    → IfOk result (λ verdict. IsVerdictOn audit start audit.unit schedule verdict)
    → IfOk result (λ verdict. IsVerdict audit (Schedule start duration unit periods) verdict)
verdict_said audit start duration unit periods schedule (Ok verdict) same in_unit is =
    rw (in_unit, sym same) is
verdict_said audit start duration unit periods schedule (Err error) same in_unit is = is
