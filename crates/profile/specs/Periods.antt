-- The periods of a schedule, and their limit at an offset (OCPP 1.6, chapter 7, ChargingSchedule
-- and ChargingSchedulePeriod).
use Rattle.std.specs.Prelude.{ℕ, ◌<◌, ◌≤◌, nat_le, nat_lt, Bool, true, ◌&&◌, IsTrue, List, [], ◌∷◌, length, filter, Option, option_map}
use Rattle.profile.specs.declared.period.Period.{Period}
use Rattle.profile.specs.Limits.{max_periods}
use Rattle.profile.specs.Greatest.{greatest}

-- the starts are strictly increasing: each period starts later than the one before it
abbrev pub are_in_order : List Period → Bool
are_in_order [] = true
are_in_order (p ∷ []) = true
are_in_order (p ∷ (q ∷ ps)) = nat_lt p.start q.start && are_in_order (q ∷ ps)

-- the periods of a schedule: at least one, at most 200, in order
pub record AreSchedulePeriods (periods : List Period) : Type 0 where
  pub some : 0 < length periods
  pub few : length periods ≤ max_periods
  pub ordered : IsTrue (are_in_order periods)

-- the limit at an offset: that of the period with the greatest start among those that have begun by
-- then
abbrev pub limit_in : List Period → ℕ → Option ℕ
limit_in periods offset =
    option_map (λ (p : Period). p.limit)
    (greatest (λ (p : Period). p.start) (filter (λ (p : Period). nat_le p.start offset) periods))
