-- For the invariant of a private loop: two schedules compared period by period. The result of
-- `agree` is Agree of Agree.antt.
use Rattle.std.specs.Prelude.{◌≡◌, ℕ, ◌+◌, ◌<◌, ◌≤◌, ◌==◌, nat_lt, Bool, not, ◌&&◌, ◌⊎◌, Option, Some, None, slice_get}
use Rattle.meaning.specs.declared.composite.CompositePeriod.{CompositePeriod}
use Rattle.meaning.specs.Composite.{CompositeSchedule, at}
use Rattle.sweep_compiler.specs.declared.agreement.PeriodInterval.{PeriodInterval}

abbrev pub start_or : ℕ → Option CompositePeriod → ℕ
start_or end None = end
start_or end (Some p) = p.start

-- the second at which the period at an index begins; after the last one, the end of the schedule
abbrev pub begin_of : CompositeSchedule → ℕ → ℕ
begin_of schedule place = start_or schedule.duration (slice_get schedule.periods place)

-- the interval of the period at an index of a schedule with its start, and the schedule's limit
-- then
pub record IsPeriodInterval (schedule : CompositeSchedule) (start place : ℕ)
    (interval : PeriodInterval)
    : Type 0 where
  pub from : interval.start ≡ start + begin_of schedule place
  pub to : interval.end ≡ start + begin_of schedule (place + 1)
  pub some : interval.start < interval.end
  pub inside : interval.end ≤ start + schedule.duration
  pub limit :
      (second : ℕ) → interval.start ≤ start + second → start + second < interval.end
      → at schedule.periods second ≡ Some interval.limit

-- two intervals share a second and have different limits
abbrev pub contradict : PeriodInterval → PeriodInterval → Bool
contradict one other =
    not (one.limit == other.limit) && (nat_lt one.start other.end && nat_lt other.start one.end)

-- two schedules agree at each second before either of two periods
abbrev pub AgreeBefore : CompositeSchedule → ℕ → ℕ → CompositeSchedule → ℕ → ℕ → Type 0
AgreeBefore first first_start place second second_start other_place =
    (one other : ℕ) → one < first.duration → other < second.duration
    → first_start + one ≡ second_start + other
    → (one < begin_of first place) ⊎ (other < begin_of second other_place)
    → at first.periods one ≡ at second.periods other
