-- The verdict of an audit: whether a point's composite schedule is the one of its book (OCPP 1.6,
-- 5.7).
use Rattle.std.specs.Prelude.{◌≡◌, ℕ, ◌<◌, List, Option, Some, None, IsOk}
use Rattle.profile.specs.declared.unit.Unit.{Unit}
use Rattle.meaning.specs.declared.composite.CompositePeriod.{CompositePeriod}
use Rattle.meaning.specs.declared.said.Said.{Said}
use Rattle.meaning.specs.declared.said.Said.TheVariants.{Refused, Unread, Schedule}
use Rattle.meaning.specs.Ask.{ask_of}
use Rattle.meaning.specs.Composite.{CompositeSchedule, at}
use Rattle.meaning.specs.Compiled.{IsExactAnswer}
use Rattle.meaning.specs.Limit.{limit_asked}
use Rattle.meaning.specs.Said.{IsSaidSchedule}
use Rattle.point_book.specs.Book.{BookState, state_of}
use Rattle.sweep_compiler.specs.declared.verdict.Verdict.{Verdict}
use Rattle.sweep_compiler.specs.declared.verdict.Verdict.TheVariants.{Agrees, Differs, Rejected, Unsettled}

-- the request of an audit to a point: for its schedule of a connector over a number of seconds, in
-- a unit; with the book to compare the reply with
pub record AuditRequest : Type 0 where
  pub book : BookState
  pub connector : ℕ
  pub duration : ℕ
  pub unit : Unit

-- the seconds that a point's schedule covers: as many as it reports, otherwise as many as requested
abbrev pub said_duration : Option ℕ → AuditRequest → ℕ
said_duration None audit = audit.duration
said_duration (Some duration) audit = duration

-- a point's schedule over these seconds
abbrev pub said_schedule : Option ℕ → List CompositePeriod → AuditRequest → CompositeSchedule
said_schedule duration periods audit =
    record { duration = said_duration duration audit; periods = periods }

-- A point's schedule can be compared: it is in the requested unit, its periods make a schedule, and
-- the book may be asked for one from the same start on.
pub record CanBeCompared (audit : AuditRequest) (start : ℕ) (unit : Unit) (said : CompositeSchedule)
    : Type 0 where
  pub in_unit : unit ≡ audit.unit
  pub schedule : IsSaidSchedule said.duration said.periods
  pub asked : IsOk (ask_of audit.connector start audit.duration)

-- the exact schedule of the audit's book from a start on, with at most as many periods as an answer
-- may have
abbrev pub IsExactFor : AuditRequest → ℕ → CompositeSchedule → Type 0
IsExactFor audit start exact =
    IsExactAnswer
    (limit_asked (state_of audit.book) audit.connector start) audit.duration exact

-- a point's schedule is compared with an exact one
pub record AreCompared (audit : AuditRequest) (start : ℕ) (unit : Unit)
    (said exact : CompositeSchedule) : Type 0 where
  pub can : CanBeCompared audit start unit said
  pub is_exact : IsExactFor audit start exact

-- two schedules with one start have equal limits at each second that both cover
abbrev pub HaveEqualLimits : CompositeSchedule → CompositeSchedule → Type 0
HaveEqualLimits exact said =
    (second : ℕ) → second < exact.duration → second < said.duration
    → at exact.periods second ≡ at said.periods second

-- the verdict on a schedule that a point reports
abbrev pub IsVerdictOn : AuditRequest → ℕ → Unit → CompositeSchedule → Verdict → Type 0
IsVerdictOn audit start unit said Agrees =
    (exact : CompositeSchedule) × AreCompared audit start unit said exact
    × HaveEqualLimits exact said
IsVerdictOn audit start unit said Differs =
    (exact : CompositeSchedule) × AreCompared audit start unit said exact
    × ¬ HaveEqualLimits exact said
IsVerdictOn audit start unit said Rejected = ⊥
IsVerdictOn audit start unit said Unsettled =
    (exact : CompositeSchedule) → ¬ AreCompared audit start unit said exact

-- The verdict of an audit on the point's reply. A refusal is Rejected. A reply that can't be read
-- or compared is Unsettled, and so is every reply if the exact schedule is too long to be an
-- answer. Otherwise it Agrees or Differs.
abbrev pub IsVerdict : AuditRequest → Said → Verdict → Type 0
IsVerdict audit Refused verdict = verdict ≡ Rejected
IsVerdict audit Unread verdict = verdict ≡ Unsettled
IsVerdict audit (Schedule start duration unit periods) verdict =
    IsVerdictOn audit start unit (said_schedule duration periods audit) verdict

-- memory may be needed: the point's reply can be compared
abbrev pub MayNeedMemory : AuditRequest → Said → Type 0
MayNeedMemory audit Refused = ⊥
MayNeedMemory audit Unread = ⊥
MayNeedMemory audit (Schedule start duration unit periods) =
    CanBeCompared audit start unit (said_schedule duration periods audit)
