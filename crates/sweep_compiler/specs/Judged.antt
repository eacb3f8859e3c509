-- An audit with its verdict (OCPP 1.6, 5.7).
use Rattle.std.specs.Prelude.{◌≡◌, Bool, true, false}
use Rattle.meaning.specs.declared.said.Said.{Said}
use Rattle.sweep_compiler.specs.declared.verdict.Verdict.{Verdict}
use Rattle.sweep_compiler.specs.declared.verdict.Verdict.TheVariants.{Unsettled}
use Rattle.sweep_compiler.specs.Verdict.{IsVerdict, MayNeedMemory}
pub use Rattle.sweep_compiler.specs.Verdict.{AuditRequest}

-- an audit, its verdict, and whether that is Unsettled only because memory ran out
pub record Judgement : Type 0 where
  pub audit : AuditRequest
  pub verdict : Verdict
  pub short : Bool

-- The verdict of an audit on the point's reply, or Unsettled if memory ran out, which is possible
-- only if the reply can be compared.
abbrev pub IsVerdictFor : AuditRequest → Said → Verdict → Bool → Type 0
IsVerdictFor audit said verdict false = IsVerdict audit said verdict
IsVerdictFor audit said verdict true = (verdict ≡ Unsettled) × MayNeedMemory audit said

-- an audit was judged on some reply of its point
abbrev pub IsJudged : AuditRequest → Verdict → Bool → Type 0
IsJudged audit verdict short = (said : Said) × IsVerdictFor audit said verdict short
