-- For private clauses: the rows that count for a request, on their way through it.
use Rattle.std.specs.Prelude.{◌≡◌, ℕ, ◌+◌, ◌<◌, zero, suc, Bool, List, [], ◌∷◌, Option, Some, None, option_map, option_and_then, slice_get, if◌then◌else◌, ◌⊎◌}
use Rattle.std.specs.List.{AllByRecursion}
use Rattle.profile.specs.declared.row.Row.{Row}
use Rattle.profile.specs.Limits.{max_stack_level}
use Rattle.profile.specs.Purpose.{is_tx}
use Rattle.profile.specs.ChargingProfile.{rate}
use Rattle.profile.specs.Row.{base}
use Rattle.recurrence.specs.declared.place.Place.{Place}
use Rattle.recurrence.specs.Places.{places_after}
use Rattle.stacking.specs.InForce.{rate_of}
use Rattle.meaning.specs.View.{PointState, active_since}
use Rattle.meaning.specs.declared.bound.ProfileLimit.{ProfileLimit}
use Rattle.meaning.specs.declared.cause.Cause.TheVariants.{ConnectorCeiling, PointCeiling}
use Rattle.meaning.specs.declared.cause.Share.{Share}
use Rattle.meaning.specs.Limit.{or_else, at_most}
use Rattle.meaning.specs.Cause.{RowLimit, Bound, with_limit, row_or_else, bound_of, lesser, lesser_of}
use Rattle.meaning.specs.ByCases.Cause.{profile_limit_of}
use Rattle.sweep_compiler.specs.ByCases.Seen.{SeenRow}

-- a row, its base, the last of its places that was passed, and the last instant of the request
pub record Running : Type 0 where
  pub row : Row
  pub base : ℕ
  pub since : ℕ
  pub last : ℕ

-- a row at the start of a request, counted from the start of a transaction if there is one
abbrev pub running_with : Option ℕ → ℕ → ℕ → Row → Running
running_with started asked last row =
    record { row = row; base = base row started asked; since = asked; last = last }

abbrev pub running_from : PointState → ℕ → ℕ → ℕ → Row → Running
running_from state connector asked last row =
    running_with (active_since state connector) asked last row

-- a row without its progress
abbrev pub seen_running : Running → SeenRow
seen_running run = record { row = run.row; base = run.base }

-- The limit that it has had since that place.
abbrev pub rate_running : Running → Option ℕ
rate_running run = rate run.row.profile run.base run.since

abbrev pub places_left : Running → List Place
places_left run = places_after run.row.profile run.base run.since run.last

-- the instant of its next place
abbrev pub first_due : List Place → Option ℕ
first_due [] = None
first_due (place ∷ later) = Some place.instant

abbrev pub due : Running → Option ℕ
due run = first_due (places_left run)

-- a row that was due, at its next place
abbrev pub passed_by : Option ℕ → Running → Running
passed_by None run = run
passed_by (Some next) run = record { row = run.row; base = run.base; since = next; last = run.last }

abbrev pub passed : Running → Running
passed run = passed_by (due run) run

-- the invariant of a row: its limit, its next place and the later ones
abbrev pub IsRun : Running → Option ℕ → Option Place → List Place → Type 0
IsRun run limit None later = (limit ≡ rate_running run) × (places_left run ≡ []) × (later ≡ [])
IsRun run limit (Some next) later = (limit ≡ rate_running run) × (places_left run ≡ next ∷ later)

-- Of the rows of a connector a TxProfile comes before any TxDefaultProfile, and of one purpose the
-- higher stack level first (OCPP 1.6, 3.13).
abbrev pub rank_by : Bool → ℕ → ℕ
rank_by transaction level = if transaction then max_stack_level + 1 + level else level

abbrev pub rank : Row → ℕ
rank row = rank_by (is_tx row.profile.purpose) row.profile.stack_level

abbrev pub rank_running : Running → ℕ
rank_running run = rank run.row

abbrev pub AreFalling : List Running → Type 0
AreFalling [] = Unit {0}
AreFalling (run ∷ later) =
    AllByRecursion (λ (low : Running). rank_running low < rank_running run) later
    × AreFalling later

-- the limit of the first row that has one
abbrev pub first_rate : List Running → Option ℕ
first_rate [] = None
first_rate (run ∷ later) = or_else (rate_running run) (first_rate later)

-- whether any row has a rank
abbrev pub HasRank : ℕ → List Running → Type 0
HasRank n [] = ⊥
HasRank n (run ∷ later) = (rank_running run ≡ n) ⊎ HasRank n later

-- the rank of each row has the limit that the row has had since its last place, and no other rank
-- has one
pub record AreInForce (runs : List Running) (rates : List (ℕ × ℕ)) : Type 0 where
  pub falling : AreFalling runs
  pub each :
      AllByRecursion (λ (run : Running). rate_of rates (rank_running run) ≡ rate_running run) runs
  pub no_other : (n limit : ℕ) → rate_of rates n ≡ Some limit → HasRank n runs

-- the bound of a connector, 0 for the whole point: its ceiling, and its rows by falling rank
pub record RunningBound : Type 0 where
  pub connector : ℕ
  pub ceiling : ℕ
  pub runs : List Running

abbrev pub bound_now : RunningBound → ℕ
bound_now bound = at_most bound.ceiling (first_rate bound.runs)

-- a row with the limit that it has had since its last place, if it has one
abbrev pub row_running : Running → Option RowLimit
row_running run = option_map (with_limit run.row) (rate_running run)

-- the first row that has a limit, with its limit
abbrev pub first_row : List Running → Option RowLimit
first_row [] = None
first_row (run ∷ later) = row_or_else (row_running run) (first_row later)

-- that row and limit as a ProfileLimit
abbrev pub first_profile_limit : List Running → Option ProfileLimit
first_profile_limit runs = option_map profile_limit_of (first_row runs)

-- the bound of a connector's own limit, and the lesser of a bound and the point's
abbrev pub own_bound_now : RunningBound → Bound
own_bound_now bound = lesser_of (first_row bound.runs) (bound_of ConnectorCeiling bound.ceiling)

abbrev pub below_now : RunningBound → Bound → Bound
below_now point other =
    lesser_of (first_row point.runs) (lesser other (bound_of PointCeiling point.ceiling))

-- the share of a connector in the sum
abbrev pub share_by : ℕ → Bound → Share
share_by connector own = record { connector = connector; limit = own.limit; cause = own.cause }

abbrev pub share_now : RunningBound → Share
share_now bound = share_by bound.connector (own_bound_now bound)

-- the rows after one of them has passed a place
abbrev pub passed_at : ℕ → List Running → List Running
passed_at n [] = []
passed_at zero (run ∷ later) = passed run ∷ later
passed_at (suc n) (run ∷ later) = run ∷ passed_at n later

abbrev pub bound_passed : ℕ → RunningBound → RunningBound
bound_passed n bound = record {
  connector = bound.connector;
  ceiling = bound.ceiling;
  runs = passed_at n bound.runs;
}

-- the instant of the next place of one of the rows
abbrev pub due_at : List Running → ℕ → Option ℕ
due_at runs n = option_and_then due (slice_get runs n)
