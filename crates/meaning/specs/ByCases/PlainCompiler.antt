-- The period that one more second adds to those before it, and the refusals. The lemmas
-- `periods_added` and `permitted` of `Theory/PlainCompiler.antt` tie this to `exact_periods` and
-- `IsPermitted`.
use Rattle.std.specs.Prelude.{ℕ, ◌==◌, ◌<◌, Bool, true, not, List, [], ◌∷◌, Option, Some, None, if◌then◌else◌}
use Rattle.ocpp_scalars.specs.declared.refusal.Refusal.{Refusal}
use Rattle.ocpp_scalars.specs.declared.refusal.Refusal.TheVariants.{ResultTooLong, OutOfMemory}
use Rattle.meaning.specs.declared.composite.CompositePeriod.{CompositePeriod}
use Rattle.meaning.specs.Limits.{max_composite_periods}

-- whether a limit differs from the one before it, if there is one
abbrev pub differs : Option ℕ → ℕ → Bool
differs None limit = true
differs (Some before) limit = not (before == limit)

-- the period that a second adds to those before it, if its limit differs
abbrev pub period_added : Option ℕ → CompositePeriod → List CompositePeriod
period_added before period = if differs before period.limit then period ∷ [] else []

-- the refusal of a period, by the number that there would be with it
abbrev pub IsAddRefused : ℕ → Refusal → Type 0
IsAddRefused many ResultTooLong = max_composite_periods < many
IsAddRefused many OutOfMemory = Unit {0}
IsAddRefused many other = ⊥
