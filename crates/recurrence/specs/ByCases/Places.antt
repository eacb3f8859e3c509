-- For private clauses: the first of the places after an instant.
use Rattle.std.specs.Prelude.{◌≡◌, ℕ, [], ◌∷◌, Option, Some, None}
use Rattle.profile.specs.declared.charging_profile.Profile.{Profile}
use Rattle.recurrence.specs.Places.{place_at, places_after}

-- the first place; with None, there is none
abbrev pub IsFirstPlace : Profile → ℕ → ℕ → ℕ → Option ℕ → Type 0
IsFirstPlace profile base instant last None = places_after profile base instant last ≡ []
IsFirstPlace profile base instant last (Some first) =
    places_after profile base instant last
    ≡ place_at profile base first ∷ places_after profile base first last
