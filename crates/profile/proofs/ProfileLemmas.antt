-- Profiles with equal fields are equal, ghost facts included, so fields determine one profile.
use Rattle.std.proofs.Common.{◌≡◌, ℕ, ℤ, ◌<◌, ◌≤◌, nat_le, length, Bool, true, false, Option, None, Ok, Err, refl, ap, sym, subst, arith}
use Rattle.std.proofs.lemmas.Bool.Decides.{nat_tests}
use Rattle.std.proofs.Math.Bool.{Bool-set}
use Rattle.std.proofs.Math.IntN.{ℤ_set}
use Rattle.std.proofs.Math.Nat.{ℕ_set}
use mathlib.Core.Sum.{⊎_set}
use mathlib.Core.HLevel.{is_prop→PathP}
use Rattle.ocpp_scalars.specs.declared.refusal.Refusal.{Refusal}
use Rattle.ocpp_scalars.specs.declared.refusal.Refusal.TheVariants.{LevelTooHigh, TooManyPeriods, PeriodsOutOfOrder, NoRecurrency}
use Rattle.profile.specs.declared.charging_profile.Profile.{Profile}
use Rattle.profile.specs.declared.parts.ProfileParts.{ProfileParts}
use Rattle.profile.specs.Limits.{max_stack_level, max_periods}
use Rattle.profile.specs.Kind.{kind_of, start_of}
use Rattle.profile.specs.Purpose.{transaction_of}
use Rattle.profile.specs.Periods.{are_in_order}
use Rattle.profile.specs.Parts.{IsProfileOf, profile_of_parts}
use Rattle.profile.specs.Refusing.{fact_or}
use Rattle.profile.specs.ByCases.Parts.{profile_with}
use Rattle.profile.specs.ByCases.Same.{HaveSameKeys, HaveSameTimes}

transactions : IsSet (Option ℤ)
transactions = hlevel (⊎_set, ℤ_set)

starts : IsSet (Option ℕ)
starts = hlevel (⊎_set, ℕ_set)

pub equal_profiles : (a b : Profile) → HaveSameKeys a b → HaveSameTimes a b → a.schedule ≡ b.schedule → a ≡ b
equal_profiles a b keys times schedule = λ i. record {
  id = keys.0 i;
  transaction = keys.1 i;
  stack_level = keys.2 i;
  purpose = keys.3 i;
  kind = times.0 i;
  valid_from = times.1 i;
  valid_to = times.2 i;
  schedule = schedule i;
  low = is_prop→PathP (λ j. nat_le (keys.2 j) max_stack_level ≡ true) (λ j. Bool-set (nat_le (keys.2 j) max_stack_level) true) a.low b.low i;
  own_transaction = is_prop→PathP (λ j. transaction_of (keys.3 j) (keys.1 j) ≡ keys.1 j) (λ j. transactions (transaction_of (keys.3 j) (keys.1 j)) (keys.1 j)) a.own_transaction b.own_transaction i;
  own_start = is_prop→PathP (λ j. start_of (times.0 j) (schedule j).start ≡ (schedule j).start) (λ j. starts (start_of (times.0 j) (schedule j).start) (schedule j).start) a.own_start b.own_start i;
}

same_profile : (parts : ProfileParts) (profile : Profile) (low : nat_le parts.stack_level max_stack_level ≡ true) → IsProfileOf parts profile → profile_with parts profile.kind low ≡ profile
same_profile parts profile low is =
    equal_profiles (profile_with parts profile.kind low) profile (sym is.id, sym is.transaction, sym is.stack_level, sym is.purpose)
    (refl, sym is.valid_from, sym is.valid_to) schedules
  where
    schedules : (profile_with parts profile.kind low).schedule ≡ profile.schedule
    schedules = λ i. record {
      duration = sym is.duration i;
      start = sym is.start i;
      unit = sym is.unit i;
      periods = sym is.periods i;
      min_charging_rate = sym is.min_charging_rate i;
    }

fact_or-true : (refusal : Refusal) (test : Bool) (holds : test ≡ true) → fact_or refusal test ≡ Ok holds
fact_or-true refusal true holds = ap Ok (Bool-set true true refl holds)
fact_or-true refusal false holds = cc

fact_or-false : (refusal : Refusal) (test : Bool) → test ≡ false → fact_or refusal test ≡ Err refusal
fact_or-false refusal true fails = cc
fact_or-false refusal false fails = refl

low_test : (parts : ProfileParts) → parts.stack_level ≤ max_stack_level → nat_le parts.stack_level max_stack_level ≡ true
low_test parts low = grind (arith, nat_tests)

few_test : (parts : ProfileParts) → length parts.schedule.periods ≤ max_periods → nat_le (length parts.schedule.periods) max_periods ≡ true
few_test parts few = grind (arith, nat_tests)

-- each refusal, if no earlier cause holds
pub level_refused : (parts : ProfileParts) → max_stack_level < parts.stack_level → profile_of_parts parts ≡ Err LevelTooHigh
level_refused parts high =
    let fails : nat_le parts.stack_level max_stack_level ≡ false = grind (arith, nat_tests) in
    rw (fact_or-false LevelTooHigh _ fails) refl

pub many_refused : (parts : ProfileParts) → parts.stack_level ≤ max_stack_level → max_periods < length parts.schedule.periods
    → profile_of_parts parts ≡ Err TooManyPeriods
many_refused parts low many =
    let fails : nat_le (length parts.schedule.periods) max_periods ≡ false = grind (arith, nat_tests) in
    rw (fact_or-true LevelTooHigh _ (low_test parts low), fact_or-false TooManyPeriods _ fails) refl

pub order_refused : (parts : ProfileParts) → parts.stack_level ≤ max_stack_level → length parts.schedule.periods ≤ max_periods
    → are_in_order parts.schedule.periods ≡ false → profile_of_parts parts ≡ Err PeriodsOutOfOrder
order_refused parts low few fails =
    rw (fact_or-true LevelTooHigh _ (low_test parts low), fact_or-true TooManyPeriods _ (few_test parts few), fact_or-false PeriodsOutOfOrder _ fails) refl

pub kind_refused : (parts : ProfileParts) → parts.stack_level ≤ max_stack_level → length parts.schedule.periods ≤ max_periods
    → are_in_order parts.schedule.periods ≡ true → kind_of parts.kind parts.recurrency ≡ None → profile_of_parts parts ≡ Err NoRecurrency
kind_refused parts low few ordered none =
    rw (fact_or-true LevelTooHigh _ (low_test parts low), fact_or-true TooManyPeriods _ (few_test parts few), fact_or-true PeriodsOutOfOrder _ ordered, none) refl

-- unless they are refused, fields make the profile that has them
pub profile_made : (parts : ProfileParts) (profile : Profile) → length parts.schedule.periods ≤ max_periods
    → are_in_order parts.schedule.periods ≡ true → IsProfileOf parts profile → profile_of_parts parts ≡ Ok profile
profile_made parts profile few ordered is =
    let low : nat_le parts.stack_level max_stack_level ≡ true = subst (λ n. nat_le n max_stack_level ≡ true) is.stack_level profile.low in
    rw (fact_or-true LevelTooHigh _ low, fact_or-true TooManyPeriods _ (few_test parts few), fact_or-true PeriodsOutOfOrder _ ordered, sym is.kind)
    (ap Ok (same_profile parts profile low is))
