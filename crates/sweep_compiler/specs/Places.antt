-- The instants at which the limit of a request may change: the places of the profiles that count
-- for it.
use Rattle.std.specs.Prelude.{ℕ, ◌+◌, ◌-◌, ◌==◌, Bool, ◌||◌, List, [], ◌∷◌, count_by, if◌then◌else◌}
use Rattle.std.specs.List.{range_with_len, list_any}
use Rattle.profile.specs.declared.purpose.Purpose.{Purpose}
use Rattle.profile.specs.declared.purpose.Purpose.TheVariants.{ChargePointMaxProfile, TxDefaultProfile, TxProfile}
use Rattle.profile.specs.declared.row.Row.{Row}
use Rattle.profile.specs.Places.{is_place}
use Rattle.profile.specs.Row.{base}
use Rattle.meaning.specs.declared.ask.Ask.{Ask}
use Rattle.meaning.specs.View.{PointState, active_since}
use Rattle.meaning.specs.Prevailing.{counted}
use Rattle.meaning.specs.Limit.{active_connectors}
use Rattle.point_book.specs.Book.{BookState, state_of}

-- whether an instant is a place of a row, counted from the row's base for a connector
abbrev pub is_place_of : PointState → ℕ → ℕ → ℕ → Row → Bool
is_place_of state connector asked instant row =
    is_place row.profile (base row (active_since state connector) asked) instant

-- whether an instant is a place of a row of a purpose that counts for a connector (OCPP 1.6, 3.13)
abbrev pub is_place_for : Purpose → PointState → ℕ → ℕ → ℕ → Bool
is_place_for purpose state connector asked instant =
    list_any (is_place_of state connector asked instant) (counted purpose state connector)

-- whether an instant is a place of a profile that sets a connector's own limit
abbrev pub is_place_at : PointState → ℕ → ℕ → ℕ → Bool
is_place_at state connector asked instant =
    is_place_for TxProfile state connector asked instant
    || is_place_for TxDefaultProfile state connector asked instant

-- The connectors that a request covers: its own, or for the whole point those with an active
-- transaction, whose limits are added.
abbrev pub looked_at : PointState → ℕ → List ℕ
looked_at state connector = if connector == 0 then active_connectors state else connector ∷ []

-- whether an instant is a place of a request for a connector: of a ChargePointMaxProfile, which
-- counts for every request, or of a connector that the request covers
abbrev pub is_place_asked : PointState → ℕ → ℕ → ℕ → Bool
is_place_asked state connector asked instant =
    is_place_for ChargePointMaxProfile state 0 asked instant
    || list_any (λ looked. is_place_at state looked asked instant) (looked_at state connector)

-- whether an instant a number of seconds after the start of the request is such a place
abbrev pub is_second_asked : PointState → ℕ → ℕ → ℕ → Bool
is_second_asked state connector start second = is_place_asked state connector start (start + second)

-- the number of places among the seconds after the first and before the end of a duration
abbrev pub places_within : (ℕ → Bool) → ℕ → ℕ
places_within is_place duration = count_by is_place (range_with_len 1 (duration - 1))

-- the number of places of a request after its start
abbrev pub places : BookState → Ask → ℕ
places book ask =
    places_within (is_second_asked (state_of book) ask.connector ask.start) ask.duration
