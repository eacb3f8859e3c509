-- The rows that an iterator over candidates has yet to yield, level by level. The contract of
-- `Rows::candidates` ties them to the candidates by falling level.
use Rattle.std.specs.Prelude.{ℕ, ◌≡◌, ◌<◌, ◌==◌, zero, suc, ◌&&◌, Bool, List, [], Option, Some, None, option_and_then, slice_get, slice_index, if◌then◌else◌}
use Rattle.std.specs.Option.{option_or}
use Rattle.std.specs.List.{find, cons_option}
use Rattle.profile.specs.declared.purpose.Purpose.{Purpose}
use Rattle.profile.specs.declared.row.Row.{Row}
use Rattle.profile.specs.declared.purpose.Purpose.TheVariants.{ChargePointMaxProfile, TxDefaultProfile, TxProfile}
use Rattle.profile.specs.Candidates.{is_candidate}
use Rattle.profile.specs.Changes.{is_purpose}
use Rattle.stacking.specs.declared.candidates.Candidates.{Candidates}

abbrev pub is_candidate_at : Purpose → List Row → ℕ → ℕ → Row → Bool
is_candidate_at purpose rows connector level row =
    (row.profile.stack_level == level) && is_candidate purpose rows connector row

abbrev pub candidate_at : Purpose → List Row → ℕ → ℕ → Option Row
candidate_at purpose rows connector level = find (is_candidate_at purpose rows connector level) rows

-- not an `abbrev`, which would be unfolded through all levels wherever their number occurs
unfoldable pub candidates_below : Purpose → List Row → ℕ → ℕ → List Row
candidates_below purpose rows connector zero = []
candidates_below purpose rows connector (suc level) =
    cons_option (candidate_at purpose rows connector level) (candidates_below purpose rows connector level)

-- ---- by indexes

abbrev pub is_row_at : Purpose → ℕ → Row → Bool
is_row_at purpose connector row =
    is_purpose purpose row.profile.purpose && (row.connector == connector)

-- the first row of a purpose and a stack level at a connector
abbrev pub first_at : Purpose → ℕ → ℕ → List Row → Option Row
first_at purpose connector level rows =
    find (λ row. (row.profile.stack_level == level) && is_row_at purpose connector row) rows

-- the indexes of these rows, by stack level
abbrev pub AreFirstPlaces : Purpose → List Row → ℕ → List ℕ → Type 0
AreFirstPlaces purpose rows connector places =
    (level : ℕ) → level < 100
    → slice_get rows (slice_index places level) ≡ first_at purpose connector level rows

-- the indexes of the first of these rows are added, except at levels that had one before
abbrev pub AreFirstAdded : Purpose → List Row → ℕ → List Row → List ℕ → List ℕ → Type 0
AreFirstAdded purpose rows connector these old new =
    (level : ℕ) → level < 100
    → slice_get rows (slice_index new level)
    ≡ option_or (slice_get rows (slice_index old level)) (first_at purpose connector level these)

-- a row, if it has this stack level
abbrev pub of_level : ℕ → Row → Option Row
of_level level row = if row.profile.stack_level == level then Some row else None

-- the index of a row is added, unless its level had one before
abbrev pub IsPlaceAdded : List Row → ℕ → List ℕ → List ℕ → Type 0
IsPlaceAdded rows place old new =
    (level : ℕ) → level < 100
    → slice_get rows (slice_index new level)
    ≡ option_or
    (slice_get rows (slice_index old level))
    (option_and_then (of_level level) (slice_get rows place))

-- the connectors whose rows apply to a connector: its own, whose rows take precedence, and one
-- shared with others
abbrev pub own_connector : Purpose → ℕ → ℕ
own_connector ChargePointMaxProfile connector = 0
own_connector TxDefaultProfile connector = connector
own_connector TxProfile connector = connector

abbrev pub shared_connector : Purpose → ℕ → ℕ
shared_connector ChargePointMaxProfile connector = 0
shared_connector TxDefaultProfile connector = 0
shared_connector TxProfile connector = connector

-- for each stack level, the index of the row that applies to the connector
abbrev pub AreCandidatePlaces : Purpose → List Row → ℕ → List ℕ → Type 0
AreCandidatePlaces purpose rows connector places =
    (level : ℕ) → level < 100
    → slice_get rows (slice_index places level) ≡ candidate_at purpose rows connector level

unfoldable pub rows_below : List Row → List ℕ → ℕ → List Row
rows_below rows places zero = []
rows_below rows places (suc level) =
    cons_option (slice_get rows (slice_index places level)) (rows_below rows places level)

abbrev pub candidates_left : Candidates → List Row
candidates_left left = rows_below left.rows.now left.places left.below
