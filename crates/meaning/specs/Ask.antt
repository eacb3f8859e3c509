-- The requests for a composite schedule that are allowed (OCPP 1.6, 5.7).
use Rattle.std.specs.Prelude.{ℕ, ◌≡◌, ◌+◌, ◌<◌, ◌⊎◌, nat_le, nat_lt, List, [], ◌∷◌, Result, Ok}
use Rattle.ocpp_scalars.specs.declared.refusal.Refusal.{Refusal}
use Rattle.ocpp_scalars.specs.declared.refusal.Refusal.TheVariants.{BadDuration, PastCalendar}
use Rattle.ocpp_scalars.specs.Causes.{Cause, ◌because◌}
use Rattle.ocpp_scalars.specs.Limits.{last_second}
use Rattle.ocpp_scalars.specs.ResultSteps.{◌>>=◌}
use Rattle.profile.specs.Refusing.{fact_or}
use Rattle.meaning.specs.declared.ask.Ask.{Ask}
use Rattle.meaning.specs.Limits.{max_duration}
use Rattle.meaning.specs.ByCases.Ask.{ask_with}

-- a requested second is past the last instant
pub record IsPastCalendar (start duration : ℕ) : Type 0 where
  pub second : ℕ
  pub asked : second < duration
  pub past : last_second < start + second

-- The causes for which a number of seconds from a start on isn't allowed, in the order in which
-- they are checked (this system's choices: OCPP 1.6, 5.7, sets no bound).
abbrev pub ask_causes : ℕ → ℕ → List Cause
ask_causes start duration =
    (BadDuration because (duration ≡ 0) ⊎ (max_duration < duration))
    ∷ (PastCalendar because IsPastCalendar start duration)
    ∷ []

pub record IsAskOf (connector start duration : ℕ) (ask : Ask) : Type 0 where
  pub connector_is : ask.connector ≡ connector
  pub start_is : ask.start ≡ start
  pub duration_is : ask.duration ≡ duration

-- The request for a connector from a start on for a number of seconds, or the refusal. By the law
-- `asks` the refusal is the first of these causes that holds; if none holds, this is the request of
-- these numbers.
abbrev pub ask_of : ℕ → ℕ → ℕ → Result Ask Refusal
ask_of connector start duration = do
  some ← fact_or BadDuration (nat_lt 0 duration)
  most ← fact_or BadDuration (nat_le duration max_duration)
  within ← fact_or PastCalendar (nat_le (start + duration) (last_second + 1))
  Ok (ask_with connector start duration some most within)
