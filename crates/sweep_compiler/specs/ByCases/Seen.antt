-- For private clauses: a row that counts for a request, seen from a connector.
use Rattle.std.specs.Prelude.{ℕ, Bool, List, [], ◌∷◌, Option, None}
use Rattle.profile.specs.declared.row.Row.{Row}
use Rattle.profile.specs.ChargingProfile.{rate}
use Rattle.profile.specs.Places.{is_place}
use Rattle.profile.specs.Row.{base}
use Rattle.meaning.specs.View.{PointState, active_since}
use Rattle.meaning.specs.Limit.{or_else}

-- a row, and its base for a connector
pub record SeenRow : Type 0 where
  pub row : Row
  pub base : ℕ

abbrev pub limit_seen : ℕ → SeenRow → Option ℕ
limit_seen instant seen = rate seen.row.profile seen.base instant

abbrev pub is_place_seen : ℕ → SeenRow → Bool
is_place_seen instant seen = is_place seen.row.profile seen.base instant

-- the limit of the first row that has one
abbrev pub first_limit : ℕ → List SeenRow → Option ℕ
first_limit instant [] = None
first_limit instant (seen ∷ later) = or_else (limit_seen instant seen) (first_limit instant later)

-- a row seen from a connector
abbrev pub seen_from : PointState → ℕ → ℕ → Row → SeenRow
seen_from state connector asked row =
    record { row = row; base = base row (active_since state connector) asked }
