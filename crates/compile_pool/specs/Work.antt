-- The most work of a request for a schedule: how often the limits of the profiles that its
-- compilation reads can change (OCPP 1.6, 5.7).
use Rattle.std.specs.Prelude.{ℕ, ◌≤◌, ◌+◌, ◌*◌, ◌/◌, ◌==◌, ◌||◌, Option, List, length, sum_by, count_by, is_some, if◌then◌else◌}
use Rattle.profile.specs.Kind.{recurrence_length}
use Rattle.profile.specs.declared.kind.Kind.{Kind}
use Rattle.profile.specs.declared.kind.Kind.TheVariants.{Absolute, Recurring, Relative}
use Rattle.profile.specs.declared.row.Row.{Row}
use Rattle.meaning.specs.declared.ask.Ask.{Ask}
use Rattle.meaning.specs.View.{PointState}
use Rattle.point_book.specs.Book.{state_of}
use Rattle.version_store.specs.Answers.{RequestedJob}

-- The most changes of a short request, this system's choice: they take some 3 milliseconds.
abbrev pub most_of_short : ℕ
most_of_short = 10_000

-- how often a schedule of this kind reaches the same offset within a duration, at most
abbrev pub turns_within : Kind → ℕ → ℕ
turns_within Absolute duration = 1
turns_within (Recurring recurrency) duration = duration / recurrence_length recurrency + 1
turns_within Relative duration = 1

-- A profile's limit can change at the start of its schedule, at the start of a period and at the
-- end of its duration, each time around, and at its validFrom and validTo (OCPP 1.6, chapter 7).
abbrev pub changes_of : Row → ℕ → ℕ
changes_of row duration =
    (length row.profile.schedule.periods + 2) * turns_within row.profile.kind duration + 2

-- the number of connectors with an active transaction
abbrev pub active_count : List (Option ℕ) → ℕ
active_count starts = count_by is_some starts

-- How many limits may read a row at a connector. A row at connector 0 is read for the point's
-- limit, and for each connector whose limit is needed: for the whole point those with an active
-- transaction.
abbrev pub looks_at : ℕ → ℕ → ℕ → ℕ
looks_at active asked connector =
    if connector == 0
    then (if asked == 0 then active + 1 else 2)
    else (if (asked == 0) || (asked == connector) then 1 else 0)

abbrev pub work_at : PointState → Ask → Row → ℕ
work_at state ask row =
    looks_at (active_count state.starts) ask.connector row.connector * changes_of row ask.duration

abbrev pub work_of : PointState → Ask → ℕ
work_of state ask = sum_by (work_at state ask) state.rows

-- a short request, by its work
abbrev pub IsShort : RequestedJob → Type 0
IsShort job = work_of (state_of job.book) job.ask ≤ most_of_short
