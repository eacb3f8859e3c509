-- Verdicts computed from the definitions alone, compared with values found by hand. The book has
-- 16.0 A for half a minute after midnight, and 10.0 A from then on. The audit is of connector 1 for
-- a minute.
use Rattle.std.specs.Prelude.{◌≡◌, ℕ, ◌+◌, List, [], ◌∷◌, Option, Some, None}
use Rattle.std.proofs.Common.{refl}
use Rattle.ocpp_scalars.specs.Limits.{last_second}
use Rattle.profile.specs.declared.kind.Kind.TheVariants.{Absolute}
use Rattle.profile.specs.declared.purpose.Purpose.TheVariants.{TxDefaultProfile}
use Rattle.profile.specs.declared.unit.Unit.{Unit}
use Rattle.profile.specs.declared.unit.Unit.TheVariants.{A, W}
use Rattle.meaning.specs.declared.composite.CompositePeriod.{CompositePeriod}
use Rattle.meaning.specs.declared.said.Said.TheVariants.{Refused, Unread, Schedule}
use Rattle.point_book.specs.Book.{BookState}
use Rattle.sweep_compiler.specs.declared.verdict.Verdict.{Verdict}
use Rattle.sweep_compiler.specs.declared.verdict.Verdict.TheVariants.{Agrees, Differs, Rejected, Unsettled}
use Rattle.sweep_compiler.specs.Verdict.{AuditRequest}
use Rattle.sweep_compiler.specs.ByCases.Verdict.{verdict_of}
use Rattle.sweep_compiler.proofs.WorkedExamples.{midnight, at_start, period, row_at}

abbrev book : BookState
book = record {
  ceiling = 630;
  ceilings = 320 ∷ [];
  rows =
      row_at 0 TxDefaultProfile Absolute (at_start 0) refl None (period 0 160 ∷ (period 30 100 ∷ []))
      ∷ [];
  transactions = None ∷ [];
}

abbrev audit : ℕ → AuditRequest
audit duration = record { book = book; connector = 1; duration = duration; unit = A }

abbrev span : ℕ → ℕ → CompositePeriod
span start limit = record { start = start; limit = limit }

-- on a schedule of a minute that begins a number of seconds after midnight
abbrev verdict_from : ℕ → List CompositePeriod → Verdict
verdict_from second periods = verdict_of (audit 60) (Schedule (midnight + second) None A periods)

-- on a schedule from midnight on with a duration
abbrev verdict_over : ℕ → List CompositePeriod → Verdict
verdict_over duration periods = verdict_of (audit 60) (Schedule midnight (Some duration) A periods)

abbrev as_meant : List CompositePeriod
as_meant = span 0 160 ∷ (span 30 100 ∷ [])

pub the_same : verdict_from 0 as_meant ≡ Agrees
the_same = refl

pub neighbours_of_equal_limit : verdict_from 0 (span 0 160 ∷ (span 10 160 ∷ (span 30 100 ∷ []))) ≡ Agrees
neighbours_of_equal_limit = refl

-- only the seconds that both cover are compared
pub shorter : verdict_over 10 (span 0 160 ∷ []) ≡ Agrees
shorter = refl

pub longer : verdict_over 90 (span 0 160 ∷ (span 30 100 ∷ (span 60 5 ∷ []))) ≡ Agrees
longer = refl

pub lower : verdict_from 0 (span 0 159 ∷ (span 30 100 ∷ [])) ≡ Differs
lower = refl

pub at_the_last_second : verdict_from 0 (span 0 160 ∷ (span 30 100 ∷ (span 59 101 ∷ []))) ≡ Differs
at_the_last_second = refl

-- the book's schedule begins at the start that the point reported
pub later_start : verdict_from 30 (span 0 100 ∷ []) ≡ Agrees
later_start = refl

pub as_of_another_start : verdict_from 30 as_meant ≡ Differs
as_of_another_start = refl

-- periods that make no schedule
pub first_after_zero : verdict_from 0 (span 1 160 ∷ (span 30 100 ∷ [])) ≡ Unsettled
first_after_zero = refl

pub not_increasing : verdict_from 0 (span 0 160 ∷ (span 30 100 ∷ (span 30 100 ∷ []))) ≡ Unsettled
not_increasing = refl

pub at_the_duration : verdict_over 30 as_meant ≡ Unsettled
at_the_duration = refl

pub no_duration : verdict_over 0 (span 0 160 ∷ []) ≡ Unsettled
no_duration = refl

pub no_period : verdict_from 0 [] ≡ Unsettled
no_period = refl

-- reports that don't match the request
pub in_watts : verdict_of (audit 60) (Schedule midnight None W as_meant) ≡ Unsettled
in_watts = refl

pub past_the_calendar : verdict_of (audit 60) (Schedule last_second None A as_meant) ≡ Unsettled
past_the_calendar = refl

pub of_no_second : verdict_of (audit 0) (Schedule midnight (Some 60) A as_meant) ≡ Unsettled
of_no_second = refl

-- no schedule
pub refused : verdict_of (audit 60) Refused ≡ Rejected
refused = refl

pub unread : verdict_of (audit 60) Unread ≡ Unsettled
unread = refl
