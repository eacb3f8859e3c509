-- The periods that give a limit exactly (OCPP 1.6, 5.7).
use Rattle.std.specs.Prelude.{◌≡◌, ◌≢◌, ℕ, ◌<◌, List, [], ◌∷◌, Some}
use Rattle.meaning.specs.declared.composite.CompositePeriod.{CompositePeriod}
use Rattle.meaning.specs.Composite.{IsSchedule, at}

-- no two neighbours have the same limit
abbrev pub Change : List CompositePeriod → Type 0
Change [] = Unit {0}
Change (p ∷ []) = Unit {0}
Change (p ∷ (q ∷ ps)) = (p.limit ≢ q.limit) × Change (q ∷ ps)

-- Periods are exact for a limit over a number of seconds: they make a schedule, their limit changes
-- at each start, and they give the limit at every second.
pub record IsExact (limit : ℕ → ℕ) (duration : ℕ) (periods : List CompositePeriod) : Type 0 where
  pub schedule : IsSchedule duration periods
  pub change : Change periods
  pub each : (second : ℕ) → second < duration → at periods second ≡ Some (limit second)
