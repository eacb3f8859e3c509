-- The verdict of an audit, computed. The law `verdicts_are_computed` ties it to IsVerdict of
-- Verdict.antt.
use Rattle.std.specs.Prelude.{ℕ, ◌==◌, min, Bool, ◌&&◌, Result, Ok, Err, is_ok, if◌then◌else◌}
use Rattle.std.specs.List.{list_all, range_with_len}
use Rattle.std.specs.Option.{option_eq}
use Rattle.ocpp_scalars.specs.declared.refusal.Refusal.{Refusal}
use Rattle.profile.specs.declared.unit.Unit.{Unit}
use Rattle.profile.specs.Unit.{unit_eq}
use Rattle.meaning.specs.declared.said.Said.{Said}
use Rattle.meaning.specs.declared.said.Said.TheVariants.{Refused, Unread, Schedule}
use Rattle.meaning.specs.Ask.{ask_of}
use Rattle.meaning.specs.Composite.{CompositeSchedule, at}
use Rattle.meaning.specs.Limit.{limit_asked}
use Rattle.meaning.specs.ByCases.Exact.{exact_schedule}
use Rattle.meaning.specs.ByCases.Said.{is_said_schedule}
use Rattle.point_book.specs.Book.{state_of}
use Rattle.sweep_compiler.specs.declared.verdict.Verdict.{Verdict}
use Rattle.sweep_compiler.specs.declared.verdict.Verdict.TheVariants.{Agrees, Differs, Rejected, Unsettled}
use Rattle.sweep_compiler.specs.Verdict.{AuditRequest, said_schedule}

-- whether two schedules with one start have equal limits at a second
abbrev pub is_equal_limit : CompositeSchedule → CompositeSchedule → ℕ → Bool
is_equal_limit exact said second =
    option_eq (λ one other. one == other) (at exact.periods second) (at said.periods second)

-- whether two schedules have equal limits at each second below both durations
abbrev pub have_equal_limits : CompositeSchedule → CompositeSchedule → Bool
have_equal_limits exact said =
    list_all (is_equal_limit exact said) (range_with_len 0 (min exact.duration said.duration))

-- whether a point's schedule can be compared: by its unit, by its periods, and by the request to
-- the book
abbrev pub can_be_compared : AuditRequest → ℕ → Unit → CompositeSchedule → Bool
can_be_compared audit start unit said =
    unit_eq unit audit.unit
    && (is_said_schedule said.duration said.periods
    && is_ok (ask_of audit.connector start audit.duration))

-- the exact schedule of the audit's book from a start on, or ResultTooLong if it is too long to be
-- an answer
abbrev pub exact_for : AuditRequest → ℕ → Result CompositeSchedule Refusal
exact_for audit start =
    exact_schedule (limit_asked (state_of audit.book) audit.connector start) audit.duration

-- the verdict on a comparable schedule of a point, from that of the book
abbrev pub verdict_by : CompositeSchedule → Result CompositeSchedule Refusal → Verdict
verdict_by said (Ok exact) = if have_equal_limits exact said then Agrees else Differs
verdict_by said (Err refusal) = Unsettled

-- the verdict on a schedule that a point reports
abbrev pub verdict_on : AuditRequest → ℕ → Unit → CompositeSchedule → Verdict
verdict_on audit start unit said =
    if can_be_compared audit start unit said
    then verdict_by said (exact_for audit start)
    else Unsettled

-- the verdict of an audit on the point's reply
abbrev pub verdict_of : AuditRequest → Said → Verdict
verdict_of audit Refused = Rejected
verdict_of audit Unread = Unsettled
verdict_of audit (Schedule start duration unit periods) =
    verdict_on audit start unit (said_schedule duration periods audit)
