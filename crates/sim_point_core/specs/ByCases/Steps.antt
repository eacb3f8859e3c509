-- The place of a point in its steps and its calls. Only private clauses use this.
use Rattle.std.specs.Prelude.{ℕ, ◌<◌, ◌≤◌, List, length, drop, Option, Some, None}
use Rattle.point_book.specs.Book.{BookState}
use Rattle.sim_point_core.specs.declared.sim_step.SimStep.{SimStep}
use Rattle.sim_point_core.specs.declared.point_call.PointCall.{PointCall}
use Rattle.sim_point_core.specs.declared.point_call.PointCall.TheVariants.{StartTransaction}
use Rattle.sim_point_core.specs.declared.point_call.InFlight.{InFlight}

-- a start is made at a connector that the point has
abbrev pub Fits : BookState → PointCall → Type 0
Fits book (StartTransaction connector begin profile) = (0 < connector) × (connector ≤ length book.ceilings)
Fits book call = Unit {0}

abbrev pub IsOf : BookState → Option InFlight → Type 0
IsOf book None = Unit {0}
IsOf book (Some call) = Fits book call.call

-- the found call, with the steps after this many
abbrev pub with_later : List SimStep → PointCall × ℕ → PointCall × List SimStep
with_later steps found = (found.0, drop found.1 steps)

-- the found call fits the point, and no more steps are done than there are
pub record IsFound (book : BookState) (steps : List SimStep) (found : PointCall × ℕ) : Type 0 where
  pub fits : Fits book found.0
  pub within : found.1 ≤ length steps
  pub some : 0 < found.1

pub record IsPlace (steps : List SimStep) (place next : ℕ) (book : BookState)
    (call : Option InFlight) : Type 0 where
  pub within : place ≤ length steps
  pub few : next ≤ place
  pub fits : IsOf book call
