-- For private clauses: a limit on its way through a request.
use Rattle.std.specs.Prelude.{◌≡◌, ℕ, ◌+◌, ◌<◌, ◌≤◌, ◌^◌, ◌==◌, min, zero, suc, Bool, true, false, List, [], ◌∷◌, ◌++◌, length, map, Option, Some, None}
use Rattle.std.specs.List.{AllByRecursion, AllZip, Contains, sum_by, count_by}
use Rattle.profile.specs.declared.purpose.Purpose.{Purpose}
use Rattle.profile.specs.declared.purpose.Purpose.TheVariants.{ChargePointMaxProfile, TxDefaultProfile, TxProfile}
use Rattle.profile.specs.declared.row.Row.{Row}
use Rattle.stacking.specs.Candidates.{AreByFallingLevel}
use Rattle.meaning.specs.declared.view.View.{View}
use Rattle.meaning.specs.View.{PointState, point_state, ceiling_of}
use Rattle.meaning.specs.Prevailing.{counted}
use Rattle.meaning.specs.declared.cause.Cause.TheVariants.{Sum}
use Rattle.meaning.specs.declared.cause.Share.{Share}
use Rattle.meaning.specs.Cause.{Bound, bound_of}
use Rattle.sweep_compiler.specs.Places.{looked_at, is_place_asked}
use Rattle.sweep_compiler.specs.ByCases.Seen.{seen_from, is_place_seen}
use Rattle.sweep_compiler.specs.ByCases.Running.{Running, RunningBound, seen_running, running_from, due_at, bound_now, own_bound_now, below_now, share_now, bound_passed}
use Rattle.sweep_compiler.specs.ByCases.Queue.{Due}
use Rattle.sweep_compiler.specs.declared.limit_curve.LimitCurve.{LimitCurve}

-- ---- the bounds of a request

-- a connector's ceiling, and the rows that count for it, TxProfiles first, each purpose by falling
-- level
pub record IsConnectorBound (state : PointState) (asked connector : ℕ) (bound : RunningBound)
    : Type 0 where
  pub own : List Row
  pub default : List Row
  pub number : bound.connector ≡ connector
  pub ceiling : bound.ceiling ≡ ceiling_of state connector
  pub own_is : AreByFallingLevel (counted TxProfile state connector) own
  pub default_is : AreByFallingLevel (counted TxDefaultProfile state connector) default
  pub runs : map seen_running bound.runs ≡ map (seen_from state connector asked) (own ++ default)

-- the point's ceiling and its own rows
pub record IsPointBound (state : PointState) (asked : ℕ) (bound : RunningBound) : Type 0 where
  pub most : List Row
  pub ceiling : bound.ceiling ≡ state.ceiling
  pub most_is : AreByFallingLevel (counted ChargePointMaxProfile state 0) most
  pub runs : map seen_running bound.runs ≡ map (seen_from state 0 asked) most

-- the bound of the whole point, followed by the bound of each connector that a request covers
abbrev pub AreBounds : PointState → ℕ → ℕ → List RunningBound → Type 0
AreBounds state connector asked [] = ⊥
AreBounds state connector asked (point ∷ others) =
    IsPointBound state asked point
    × AllZip
    (λ looked bound. IsConnectorBound state asked looked bound)
    (looked_at state connector)
    others

-- ---- the rows of bounds

abbrev pub EachRow : (Running → Type 0) → List RunningBound → Type 0
EachRow P bounds = AllByRecursion (λ (bound : RunningBound). AllByRecursion P bound.runs) bounds

abbrev pub row_count : List RunningBound → ℕ → ℕ
row_count [] n = 0
row_count (bound ∷ others) zero = length bound.runs
row_count (bound ∷ others) (suc n) = row_count others n

-- the instant of the next place of a row of a bound
abbrev pub due_in : List RunningBound → ℕ → ℕ → Option ℕ
due_in [] n row = None
due_in (bound ∷ others) zero row = due_at bound.runs row
due_in (bound ∷ others) (suc n) row = due_in others n row

abbrev pub passed_in : ℕ → ℕ → List RunningBound → List RunningBound
passed_in n row [] = []
passed_in zero row (bound ∷ others) = bound_passed row bound ∷ others
passed_in (suc n) row (bound ∷ others) = bound ∷ passed_in n row others

-- the sum of the connectors' limits
abbrev pub shared_now : List RunningBound → ℕ
shared_now [] = 0
shared_now (point ∷ others) = sum_by bound_now others

-- the share of each connector in the sum
abbrev pub shares_now : List RunningBound → List Share
shares_now [] = []
shares_now (point ∷ others) = map share_now others

-- ---- on the way

-- a row of a request, up to a last instant, that has passed its places up to another, except
-- possibly those at it
pub record IsPassedUpTo (state : PointState) (connector asked last at : ℕ) (run : Running)
    : Type 0 where
  pub since : run.since ≤ at
  pub last_is : run.last ≡ last
  pub speaks :
      (instant : ℕ) → is_place_seen instant (seen_running run) ≡ true
      → is_place_asked state connector asked instant ≡ true

pub record IsWaiting (state : PointState) (connector asked last at : ℕ)
    (bounds : List RunningBound) (item : Due) : Type 0 where
  pub later : at ≤ item.instant
  pub within : item.instant ≤ last
  pub place : is_place_asked state connector asked item.instant ≡ true
  pub has_row : item.row < row_count bounds item.bound

-- each row with a place left waits for it, and each entry of the queue is for a place of its row
pub record IsSwept (state : PointState) (connector asked last at : ℕ)
    (bounds : List RunningBound) (items : List Due) (sum : ℕ) : Type 0 where
  pub gathered : AreBounds state connector asked bounds
  pub small : AllByRecursion (λ (bound : RunningBound). bound.ceiling < 2 ^ 32) bounds
  pub few : length bounds ≤ 2 ^ 32
  pub sum_is : sum ≡ shared_now bounds
  pub from : asked ≤ at
  pub passed : EachRow (IsPassedUpTo state connector asked last at) bounds
  pub waits :
      (n row instant : ℕ) → due_in bounds n row ≡ Some instant
      → Contains items (record { instant = instant; bound = n; row = row })
  pub each :
      (item : Due) → Contains items item → IsWaiting state connector asked last at bounds item

abbrev pub IsSweptCurve : LimitCurve → Type 0
IsSweptCurve curve =
    IsSwept
    (point_state curve.view) curve.connector curve.asked curve.last curve.at
    curve.bounds.items curve.queue curve.sum

-- and the sweep isn't in the middle of a second
pub record IsReadyCurve (curve : LimitCurve) : Type 0 where
  pub swept : IsSweptCurve curve
  pub ahead : (item : Due) → Contains curve.queue item → curve.at < item.instant
  pub short : curve.last < curve.asked + 2 ^ 32

-- the limit from the bounds as they are now
abbrev pub limit_now : List RunningBound → ℕ → ℕ
limit_now [] sum = sum
limit_now (point ∷ others) sum = min (bound_now point) sum

-- the bound from the bounds as they are now: of the whole point, or of a connector
abbrev pub bound_as_now : Bool → List RunningBound → ℕ → Bound
bound_as_now true [] sum = bound_of Sum sum
bound_as_now false [] sum = bound_of Sum sum
bound_as_now true (point ∷ others) sum = below_now point (bound_of Sum sum)
bound_as_now false (point ∷ []) sum = bound_of Sum sum
bound_as_now false (point ∷ (own ∷ others)) sum = below_now point (own_bound_now own)

-- the number of rows that wait for an instant
abbrev pub waiting_at : ℕ → List Due → ℕ
waiting_at instant items = count_by (λ (item : Due). item.instant == instant) items

-- the fields that a sweep doesn't change
pub record IsOfOneAsk (old new : LimitCurve) : Type 0 where
  pub view : new.view ≡ old.view
  pub connector : new.connector ≡ old.connector
  pub asked : new.asked ≡ old.asked
  pub last : new.last ≡ old.last

-- ---- at the start

-- the rows of a purpose that count for a connector, by falling level, at the start
pub record AreRunsOf (purpose : Purpose) (state : PointState) (connector asked last : ℕ)
    (runs : List Running) : Type 0 where
  pub rows : List Row
  pub rows_are : AreByFallingLevel (counted purpose state connector) rows
  pub runs_are : runs ≡ map (running_from state connector asked last) rows

pub record IsPointAtStart (state : PointState) (asked last : ℕ) (bound : RunningBound)
    : Type 0 where
  pub ceiling : bound.ceiling ≡ state.ceiling
  pub small : bound.ceiling < 2 ^ 32
  pub most : AreRunsOf ChargePointMaxProfile state 0 asked last bound.runs

pub record IsConnectorAtStart (state : PointState) (asked last connector : ℕ)
    (bound : RunningBound) : Type 0 where
  pub own : List Running
  pub default : List Running
  pub number : bound.connector ≡ connector
  pub ceiling : bound.ceiling ≡ ceiling_of state connector
  pub small : bound.ceiling < 2 ^ 32
  pub own_are : AreRunsOf TxProfile state connector asked last own
  pub default_are : AreRunsOf TxDefaultProfile state connector asked last default
  pub runs_are : bound.runs ≡ own ++ default

-- the bounds of the connectors that a request covers, at the start
abbrev pub AreConnectorsAtStart : PointState → ℕ → ℕ → List ℕ → List RunningBound → Type 0
AreConnectorsAtStart state asked last looked bounds =
    AllZip
    (λ connector bound. IsConnectorAtStart state asked last connector bound)
    looked
    bounds

abbrev pub AreAtStart : PointState → ℕ → ℕ → ℕ → List RunningBound → Type 0
AreAtStart state connector asked last [] = ⊥
AreAtStart state connector asked last (point ∷ others) =
    IsPointAtStart state asked last point
    × AreConnectorsAtStart state asked last (looked_at state connector) others

-- one more connector, if it has an active transaction
abbrev pub IsWithConnector :
    Bool → PointState → ℕ → ℕ → ℕ → List RunningBound → List RunningBound → Type 0
IsWithConnector true state asked last connector old new =
    (bound : RunningBound) × IsConnectorAtStart state asked last connector bound
    × (new ≡ old ++ bound ∷ [])
IsWithConnector false state asked last connector old new = new ≡ old

-- each row of the bounds before one, and the first rows of that bound, waits if it has a place
-- left, and no other row waits
pub record AreWaiting (bounds : List RunningBound) (many rows : ℕ) (items : List Due) : Type 0 where
  pub before :
      (n row instant : ℕ) → n < many → due_in bounds n row ≡ Some instant
      → Contains items (record { instant = instant; bound = n; row = row })
  pub here :
      (row instant : ℕ) → row < rows → due_in bounds many row ≡ Some instant
      → Contains items (record { instant = instant; bound = many; row = row })
  pub each :
      (item : Due) → Contains items item → due_in bounds item.bound item.row ≡ Some item.instant

-- a sweep at the start of a request
pub record IsCurveAtStart (view : View) (connector asked last : ℕ) (curve : LimitCurve)
    : Type 0 where
  pub view_is : curve.view ≡ view
  pub connector_is : curve.connector ≡ connector
  pub asked_is : curve.asked ≡ asked
  pub last_is : curve.last ≡ last
  pub at_is : curve.at ≡ asked
  pub ready : IsReadyCurve curve
