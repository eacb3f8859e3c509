-- A verdict is the computed one.
use Rattle.std.proofs.Common.{◌≡◌, ◌↔◌, ℕ, ◌+◌, ◌<◌, ◌≤◌, ◌≢◌, ◌==◌, zero, suc, min, Bool, true, false, ◌&&◌, cond, List, Option, Result, Ok, Err, is_ok, refl, sym, subst, inl, inr, ◌⊎◌, arith, rules}
use Rattle.std.specs.Bool.{Decides}
use Rattle.std.specs.List.{list_all, range_with_len}
use Rattle.std.specs.Option.{option_eq}
use Rattle.std.proofs.lemmas.Bool.{cases_eq, false≢true, and_parts, and_from}
use Rattle.std.proofs.lemmas.Bool.Decides.{not_from_Decides}
use Rattle.ocpp_scalars.specs.declared.refusal.Refusal.{Refusal}
use Rattle.profile.specs.declared.unit.Unit.{Unit}
use Rattle.profile.specs.declared.unit.Unit.TheVariants.{A, W}
use Rattle.profile.specs.Unit.{unit_eq}
use Rattle.meaning.specs.declared.composite.CompositePeriod.{CompositePeriod}
use Rattle.meaning.specs.declared.said.Said.{Said}
use Rattle.meaning.specs.declared.said.Said.TheVariants.{Refused, Unread, Schedule}
use Rattle.meaning.specs.Ask.{ask_of}
use Rattle.meaning.specs.Composite.{CompositeSchedule, at}
use Rattle.meaning.specs.Compiled.{IsExactAnswer}
use Rattle.meaning.specs.Limit.{limit_asked}
use Rattle.meaning.specs.Said.{IsSaidSchedule}
use Rattle.meaning.specs.ByCases.Exact.{exact_schedule}
use Rattle.meaning.specs.ByCases.Said.{is_said_schedule}
use Rattle.point_book.specs.Book.{state_of}
use Rattle.sweep_compiler.specs.declared.verdict.Verdict.{Verdict}
use Rattle.sweep_compiler.specs.declared.verdict.Verdict.TheVariants.{Agrees, Differs, Rejected, Unsettled}
use Rattle.sweep_compiler.specs.Verdict.{AuditRequest, said_schedule, CanBeCompared, IsExactFor, AreCompared, HaveEqualLimits, IsVerdictOn, IsVerdict}
use Rattle.sweep_compiler.specs.ByCases.Verdict.{is_equal_limit, have_equal_limits, can_be_compared, exact_for, verdict_by, verdict_on, verdict_of}

-- ---- equal limits

equal_limit : (one other : Option ℕ) → Decides (option_eq (λ m n. m == n) one other) (one ≡ other)
equal_limit one other = search rules

all_are : (test : ℕ → Bool) (from n : ℕ) → list_all test (range_with_len from n) ≡ true
    → (second : ℕ) → from ≤ second → second < from + n → test second ≡ true
all_are test from zero all second after before = absurd (omega (arith, after, before))
all_are test from (suc n) all second after before =
    let parts = and_parts (test from) (list_all test (range_with_len (from + 1) n)) all in
    go parts.0 (all_are test (from + 1) n parts.1 second) (cases_eq from second)
  where
    go : test from ≡ true → (from + 1 ≤ second → second < from + 1 + n → test second ≡ true)
        → (from ≡ second) ⊎ (from ≢ second) → test second ≡ true
    go here later (inl same) = subst (λ (k : ℕ). test k ≡ true) same here
    go here later (inr other) = later (omega (arith, after, other)) (omega (arith, before))

are_all : (test : ℕ → Bool) (from n : ℕ)
    → ((second : ℕ) → from ≤ second → second < from + n → test second ≡ true)
    → list_all test (range_with_len from n) ≡ true
are_all test from zero each = refl
are_all test from (suc n) each =
    and_from (test from) (list_all test (range_with_len (from + 1) n)) (each from (omega arith) (omega arith))
    (are_all test (from + 1) n (λ second after before. each second (omega (arith, after)) (omega (arith, before))))

equal_limits : (exact said : CompositeSchedule) → Decides (have_equal_limits exact said) (HaveEqualLimits exact said)
equal_limits exact said = (
  λ equal second first other.
      (equal_limit (at exact.periods second) (at said.periods second)).0
      (all_are (is_equal_limit exact said) 0 (min exact.duration said.duration) equal second
      (omega arith) (omega (arith, first, other))),
  λ each. are_all (is_equal_limit exact said) 0 (min exact.duration said.duration)
      (λ second after before.
      (equal_limit (at exact.periods second) (at said.periods second)).1
      (each second (omega (arith, before)) (omega (arith, before)))),
)

-- ---- comparable schedules

same_unit : (one other : Unit) → Decides (unit_eq one other) (one ≡ other)
same_unit A A = (λ is. refl, λ is. refl)
same_unit A W = (λ is. absurd (false≢true is), λ is. absurd (cc))
same_unit W A = (λ is. absurd (false≢true is), λ is. absurd (cc))
same_unit W W = (λ is. refl, λ is. refl)

some_asked : (connector start duration : ℕ) → is_ok (ask_of connector start duration) ≡ true → 0 < duration
some_asked connector start zero asked = absurd (false≢true asked)
some_asked connector start (suc n) asked = omega arith

-- the laws of `meaning` on which the verdict rests
abbrev pub ExactSchedules : Type 0
ExactSchedules = (limit : ℕ → ℕ) (duration : ℕ) (schedule : CompositeSchedule) → 0 < duration
    → IsExactAnswer limit duration schedule ↔ (exact_schedule limit duration ≡ Ok schedule)

abbrev pub SaidSchedules : Type 0
SaidSchedules = (duration : ℕ) (periods : List CompositePeriod)
    → (is_said_schedule duration periods ≡ true) ↔ IsSaidSchedule duration periods

module _ (exact_law : ExactSchedules) (said_law : SaidSchedules) where
  module _ (audit : AuditRequest) (start : ℕ) (unit : Unit) (said : CompositeSchedule) where
    abbrev is_asked : Bool
    is_asked = is_ok (ask_of audit.connector start audit.duration)

    abbrev Can : Type 0
    Can = CanBeCompared audit start unit said

    abbrev Is : Verdict → Type 0
    Is = IsVerdictOn audit start unit said

    can_be : Decides (can_be_compared audit start unit said) Can
    can_be = (
      λ can.
          let parts = and_parts (unit_eq unit audit.unit) (is_said_schedule said.duration said.periods && is_asked) can in
          let later = and_parts (is_said_schedule said.duration said.periods) is_asked parts.1 in
          record {
            in_unit = (same_unit unit audit.unit).0 parts.0;
            schedule = (said_law said.duration said.periods).0 later.0;
            asked = later.1;
          },
      λ can. and_from _ _ ((same_unit unit audit.unit).1 can.in_unit)
          (and_from _ _ ((said_law said.duration said.periods).1 can.schedule) can.asked),
    )

    exact_is : (exact : CompositeSchedule) → Can → IsExactFor audit start exact ↔ (exact_for audit start ≡ Ok exact)
    exact_is exact can =
        exact_law (limit_asked (state_of audit.book) audit.connector start) audit.duration exact
        (some_asked audit.connector start audit.duration can.asked)

    -- the computed verdict is a verdict
    by_limits : (exact : CompositeSchedule) → AreCompared audit start unit said exact
        → (equal : Bool) → have_equal_limits exact said ≡ equal → Is (cond equal Agrees Differs)
    by_limits exact compared true is = (exact, compared, (equal_limits exact said).0 is)
    by_limits exact compared false is =
        (exact, compared, λ equal. not_from_Decides _ (equal_limits exact said) is equal)

    by_exact : Can → (found : Result CompositeSchedule Refusal) → exact_for audit start ≡ found
        → Is (verdict_by said found)
    by_exact can (Ok exact) is =
        by_limits exact (record { can = can; is_exact = (exact_is exact can).1 is })
        (have_equal_limits exact said) refl
    by_exact can (Err refusal) is =
        λ exact compared. let found = (exact_is exact can).0 compared.is_exact in absurd (cc)

    computed_is : Is (verdict_on audit start unit said)
    computed_is = go (can_be_compared audit start unit said) refl
      where
        go : (can : Bool) → can_be_compared audit start unit said ≡ can
            → Is (cond can (verdict_by said (exact_for audit start)) Unsettled)
        go true can = by_exact (can_be.0 can) (exact_for audit start) refl
        go false cannot = λ exact compared. not_from_Decides _ can_be cannot compared.can

    -- a verdict is the computed one
    compared_are : (exact : CompositeSchedule) → AreCompared audit start unit said exact
        → verdict_on audit start unit said ≡ cond (have_equal_limits exact said) Agrees Differs
    compared_are exact compared =
        rw (can_be.1 compared.can, (exact_is exact compared.can).0 compared.is_exact) refl

    is_computed : (verdict : Verdict) → Is verdict → verdict_on audit start unit said ≡ verdict
    is_computed Agrees (exact, compared, equal) =
        rw (compared_are exact compared, (equal_limits exact said).1 equal) refl
    is_computed Differs (exact, compared, unequal) =
        rw (compared_are exact compared) (go (have_equal_limits exact said) refl)
      where
        go : (equal : Bool) → have_equal_limits exact said ≡ equal → cond equal Agrees Differs ≡ Differs
        go true equal = absurd (unequal ((equal_limits exact said).0 equal))
        go false unequal = refl
    is_computed Rejected is = absurd is
    is_computed Unsettled none = go (can_be_compared audit start unit said) refl
      where
        by : Can → (found : Result CompositeSchedule Refusal) → exact_for audit start ≡ found
            → verdict_by said found ≡ Unsettled
        by can (Ok exact) is = absurd (none exact (record { can = can; is_exact = (exact_is exact can).1 is }))
        by can (Err refusal) is = refl

        go : (can : Bool) → can_be_compared audit start unit said ≡ can
            → cond can (verdict_by said (exact_for audit start)) Unsettled ≡ Unsettled
        go true can = by (can_be.0 can) (exact_for audit start) refl
        go false cannot = refl

  pub verdict_law : (audit : AuditRequest) (said : Said) (verdict : Verdict)
      → IsVerdict audit said verdict ↔ (verdict_of audit said ≡ verdict)
  verdict_law audit Refused verdict = (λ is. sym is, λ is. sym is)
  verdict_law audit Unread verdict = (λ is. sym is, λ is. sym is)
  verdict_law audit (Schedule start duration unit periods) verdict = (
    is_computed audit start unit (said_schedule duration periods audit) verdict,
    λ is. subst (IsVerdictOn audit start unit (said_schedule duration periods audit)) is
        (computed_is audit start unit (said_schedule duration periods audit)),
  )
