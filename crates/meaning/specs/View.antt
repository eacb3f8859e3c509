-- The state of a charge point at one time, as the definitions of limits read it.
use Rattle.std.specs.Prelude.{ℕ, ◌-◌, zero, suc, List, Option, None, option_and_then, slice_get, slice_index}
use Rattle.profile.specs.declared.row.Row.{Row}
use Rattle.meaning.specs.declared.view.View.{View}

-- its ceilings, its active transactions and its profiles
pub record PointState : Type 0 where
  -- the point's ceiling, in tenths
  pub ceiling : ℕ
  -- the ceilings of connectors 1, 2, ..
  pub ceilings : List ℕ
  -- the start of the active transaction at connectors 1, 2, ..
  pub starts : List (Option ℕ)
  -- the installed profiles
  pub rows : List Row

abbrev pub point_state : View → PointState
point_state view = record {
  ceiling = view.ceiling;
  ceilings = view.ceilings.now;
  starts = view.starts.now;
  rows = view.rows.now;
}

-- the ceiling of a connector above 0
abbrev pub ceiling_of : PointState → ℕ → ℕ
ceiling_of state connector = slice_index state.ceilings (connector - 1)

-- the start of the active transaction at a connector; connector 0 never has one: by cases, since 0
-- - 1 is 0 and would read connector 1
abbrev pub active_since : PointState → ℕ → Option ℕ
active_since state zero = None
active_since state (suc before) = option_and_then (λ start. start) (slice_get state.starts before)
