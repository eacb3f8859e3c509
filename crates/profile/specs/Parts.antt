-- The result of a charging profile's fields: a well-formed profile, or the first cause of a
-- refusal.
use Rattle.std.specs.Prelude.{◌≡◌, ◌<◌, ◌≤◌, nat_le, List, [], ◌∷◌, ◌++◌, length, Some, None, Result, Ok}
use Rattle.ocpp_scalars.specs.declared.refusal.Refusal.{Refusal}
use Rattle.ocpp_scalars.specs.declared.refusal.Refusal.TheVariants.{LevelTooHigh, TooManyPeriods, PeriodsOutOfOrder, NoRecurrency}
use Rattle.ocpp_scalars.specs.Causes.{Cause, ◌because◌}
use Rattle.profile.specs.declared.kind.ProfileKind.TheVariants.{Recurring}
use Rattle.profile.specs.declared.parts.ProfileParts.{ProfileParts}
use Rattle.profile.specs.declared.period.Period.{Period}
use Rattle.profile.specs.declared.charging_profile.Profile.{Profile}
use Rattle.profile.specs.Limits.{max_stack_level, max_periods}
use Rattle.profile.specs.Kind.{kind_of, start_of}
use Rattle.profile.specs.Purpose.{transaction_of}
use Rattle.profile.specs.Periods.{are_in_order}
use Rattle.ocpp_scalars.specs.ResultSteps.{◌>>=◌}
use Rattle.profile.specs.Refusing.{fact_or, value_or}
use Rattle.profile.specs.ByCases.Parts.{profile_with}

-- The well-formed profile of these fields. Fields of another purpose or kind are dropped, and all
-- others are unchanged (OCPP 1.6, chapter 7, ChargingProfile).
pub record IsProfileOf (parts : ProfileParts) (profile : Profile) : Type 0 where
  pub id : profile.id ≡ parts.id
  pub transaction : profile.transaction ≡ transaction_of parts.purpose parts.transaction
  pub stack_level : profile.stack_level ≡ parts.stack_level
  pub purpose : profile.purpose ≡ parts.purpose
  pub kind : Some profile.kind ≡ kind_of parts.kind parts.recurrency
  pub valid_from : profile.valid_from ≡ parts.valid_from
  pub valid_to : profile.valid_to ≡ parts.valid_to
  pub duration : profile.schedule.duration ≡ parts.schedule.duration
  pub start : profile.schedule.start ≡ start_of profile.kind parts.schedule.start
  pub unit : profile.schedule.unit ≡ parts.schedule.unit
  pub periods : profile.schedule.periods ≡ parts.schedule.periods
  pub min_charging_rate : profile.schedule.min_charging_rate ≡ parts.schedule.min_charging_rate

-- a period that doesn't start later than the one before it (OCPP 1.6, chapter 7,
-- ChargingSchedulePeriod)
pub record IsOutOfOrder (periods : List Period) : Type 0 where
  pub before : List Period
  pub period : Period
  pub next : Period
  pub after : List Period
  pub stands : periods ≡ before ++ (period ∷ next ∷ after)
  pub not_later : next.start ≤ period.start

-- The causes for which fields make no profile, in the order in which they are checked (OCPP 1.6,
-- chapter 7; the limits are this system's choice). An empty list of periods is no cause here: the
-- type of a received list excludes it.
abbrev pub part_causes : ProfileParts → List Cause
part_causes parts =
    (LevelTooHigh because max_stack_level < parts.stack_level)
    ∷ (TooManyPeriods because max_periods < length parts.schedule.periods)
    ∷ (PeriodsOutOfOrder because IsOutOfOrder parts.schedule.periods)
    ∷ (NoRecurrency because (parts.kind ≡ Recurring) × (parts.recurrency ≡ None))
    ∷ []

-- The profile that these fields make, or the refusal. By the law `profile_parts` the refusal is the
-- first of these causes that holds; if none holds, this is the profile of these fields.
abbrev pub profile_of_parts : ProfileParts → Result Profile Refusal
profile_of_parts parts = do
  low ← fact_or LevelTooHigh (nat_le parts.stack_level max_stack_level)
  few ← fact_or TooManyPeriods (nat_le (length parts.schedule.periods) max_periods)
  ordered ← fact_or PeriodsOutOfOrder (are_in_order parts.schedule.periods)
  kind ← value_or NoRecurrency (kind_of parts.kind parts.recurrency)
  Ok (profile_with parts kind low)
