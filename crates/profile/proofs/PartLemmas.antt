-- Fields are refused by the first of their causes that holds; if none holds, they make the profile
-- with these fields.
use Rattle.std.proofs.Common.{◌≡◌, ℕ, ◌<◌, ◌≤◌, nat_le, nat_lt, Bool, true, false, ◌&&◌, ◌↔◌, inl, inr, List, [], ◌∷◌, ◌++◌, length, Option, Some, None, Result, Ok, Err, refl, ap, subst, arith, true≢false, leb-true}
use Rattle.std.specs.Result.{result_err}
use Rattle.std.proofs.lemmas.Bool.{and_parts}
use Rattle.std.proofs.lemmas.Bool.Decides.{nat_tests}
use Rattle.ocpp_scalars.specs.declared.refusal.Refusal.{Refusal}
use Rattle.ocpp_scalars.specs.declared.refusal.Refusal.TheVariants.{LevelTooHigh, TooManyPeriods, PeriodsOutOfOrder, NoRecurrency}
use Rattle.ocpp_scalars.specs.ResultSteps.{◌>>=◌}
use Rattle.ocpp_scalars.specs.Causes.{Cause, ◌because◌, IsFirstCause}
use Rattle.ocpp_scalars.specs.Theory.Causes.{refused_law, none_refused}
use Rattle.profile.specs.declared.kind.Kind.{Kind}
use Rattle.profile.specs.declared.kind.ProfileKind.{ProfileKind}
use Rattle.profile.specs.declared.kind.ProfileKind.TheVariants.{Absolute, Recurring, Relative}
use Rattle.profile.specs.declared.kind.Recurrency.{Recurrency}
use Rattle.profile.specs.declared.parts.ProfileParts.{ProfileParts}
use Rattle.profile.specs.declared.period.Period.{Period}
use Rattle.profile.specs.declared.charging_profile.Profile.{Profile}
use Rattle.profile.specs.Limits.{max_stack_level, max_periods}
use Rattle.profile.specs.Kind.{kind_of}
use Rattle.profile.specs.Periods.{are_in_order}
use Rattle.profile.specs.Parts.{IsProfileOf, IsOutOfOrder, part_causes, profile_of_parts}
use Rattle.profile.specs.Refusing.{fact_or, value_or}
use Rattle.profile.specs.ByCases.Parts.{profile_with}
use Rattle.profile.specs.Theory.Refusing.{by_fact, by_value}
use Rattle.profile.proofs.ProfileLemmas.{profile_made}

-- ---- periods in order

later_start : (before : List Period) (period next : Period) (after : List Period)
    → are_in_order (before ++ (period ∷ next ∷ after)) ≡ true → period.start < next.start
later_start [] period next after ordered =
    let parts = and_parts (nat_lt period.start next.start) (are_in_order (next ∷ after)) ordered in
    grind (arith, nat_tests)
later_start (p ∷ []) period next after ordered =
    let parts = and_parts (nat_lt p.start period.start)
    (are_in_order (period ∷ next ∷ after)) ordered in later_start [] period next after parts.1
later_start (p ∷ (q ∷ before)) period next after ordered =
    let parts = and_parts (nat_lt p.start q.start)
    (are_in_order (q ∷ (before ++ (period ∷ next ∷ after)))) ordered in
    later_start (q ∷ before) period next after parts.1

in_order : (periods : List Period) → are_in_order periods ≡ true → ¬ IsOutOfOrder periods
in_order periods ordered out =
    let later = later_start out.before out.period out.next out.after
    (subst (λ (ps : List Period). are_in_order ps ≡ true) out.stands ordered) in
    absurd (omega (arith, later, out.not_later))

out_of_order : (periods : List Period) → are_in_order periods ≡ false → IsOutOfOrder periods
out_of_order [] fails = absurd (true≢false fails)
out_of_order (p ∷ []) fails = absurd (true≢false fails)
out_of_order (p ∷ (q ∷ ps)) fails = go (nat_lt p.start q.start) refl fails (out_of_order (q ∷ ps))
  where
    go : (b : Bool) → nat_lt p.start q.start ≡ b → (b && are_in_order (q ∷ ps)) ≡ false
        → (are_in_order (q ∷ ps) ≡ false → IsOutOfOrder (q ∷ ps)) → IsOutOfOrder (p ∷ (q ∷ ps))
    go true later rest found =
        let out = found rest in
        record {
          before = p ∷ out.before;
          period = out.period;
          next = out.next;
          after = out.after;
          stands = ap (λ (xs : List Period). p ∷ xs) out.stands;
          not_later = out.not_later;
        }
    go false late rest found =
        record {
          before = [];
          period = p;
          next = q;
          after = ps;
          stands = refl;
          not_later = grind (arith, nat_tests);
        }

-- ---- the kind

no_kind : (kind : ProfileKind) (recurrency : Option Recurrency) → kind_of kind recurrency ≡ None
    → (kind ≡ Recurring) × (recurrency ≡ None)
no_kind Absolute recurrency e = cc
no_kind Recurring None e = (refl, refl)
no_kind Recurring (Some recurrency) e = cc
no_kind Relative recurrency e = cc

some_kind : (given : ProfileKind) (recurrency : Option Recurrency) (kind : Kind)
    → kind_of given recurrency ≡ Some kind → ¬ ((given ≡ Recurring) × (recurrency ≡ None))
some_kind Absolute recurrency kind e (recurring, none) = cc
some_kind Recurring None kind e (recurring, none) = cc
some_kind Recurring (Some recurrency) kind e (recurring, none) = cc
some_kind Relative recurrency kind e (recurring, none) = cc

-- ---- the first cause

above : (n most : ℕ) → nat_le n most ≡ false → most < n
above n most fails = grind (arith, nat_tests)

not_above : (n most : ℕ) → nat_le n most ≡ true → ¬ (most < n)
not_above n most holds more = absurd (omega (arith, leb-true n most holds, more))

abbrev kind_causes : ProfileParts → List Cause
kind_causes parts = (NoRecurrency because (parts.kind ≡ Recurring) × (parts.recurrency ≡ None)) ∷ []

abbrev order_causes : ProfileParts → List Cause
order_causes parts =
    (PeriodsOutOfOrder because IsOutOfOrder parts.schedule.periods) ∷ kind_causes parts

abbrev many_causes : ProfileParts → List Cause
many_causes parts =
    (TooManyPeriods because max_periods < length parts.schedule.periods) ∷ order_causes parts

module _ (parts : ProfileParts) where
  abbrev IsLow : Type 0
  IsLow = nat_le parts.stack_level max_stack_level ≡ true

  abbrev of_kind : IsLow → Result Profile Refusal
  of_kind low =
      value_or NoRecurrency (kind_of parts.kind parts.recurrency)
      >>= (λ kind. Ok (profile_with parts kind low))

  abbrev of_order : IsLow → Result Profile Refusal
  of_order low =
      fact_or PeriodsOutOfOrder (are_in_order parts.schedule.periods) >>= (λ _. of_kind low)

  abbrev of_many : IsLow → Result Profile Refusal
  of_many low =
      fact_or TooManyPeriods (nat_le (length parts.schedule.periods) max_periods)
      >>= (λ _. of_order low)

  kind_cause : (low : IsLow) → IsFirstCause (kind_causes parts) (result_err (of_kind low))
  kind_cause low =
      by_value (kind_of parts.kind parts.recurrency)
      ((parts.kind ≡ Recurring) × (parts.recurrency ≡ None)) NoRecurrency []
      (λ kind. Ok (profile_with parts kind low))
      (no_kind parts.kind parts.recurrency) (some_kind parts.kind parts.recurrency) (λ kind. refl)

  order_cause : (low : IsLow) → IsFirstCause (order_causes parts) (result_err (of_order low))
  order_cause low =
      by_fact (are_in_order parts.schedule.periods)
      (IsOutOfOrder parts.schedule.periods) PeriodsOutOfOrder (kind_causes parts)
      (λ _. of_kind low)
      (out_of_order parts.schedule.periods) (in_order parts.schedule.periods) (λ _. kind_cause low)

  many_cause : (low : IsLow) → IsFirstCause (many_causes parts) (result_err (of_many low))
  many_cause low =
      by_fact (nat_le (length parts.schedule.periods) max_periods)
      (max_periods < length parts.schedule.periods) TooManyPeriods (order_causes parts)
      (λ _. of_order low)
      (above (length parts.schedule.periods) max_periods)
      (not_above (length parts.schedule.periods) max_periods) (λ _. order_cause low)

part_cause : (parts : ProfileParts)
    → IsFirstCause (part_causes parts) (result_err (profile_of_parts parts))
part_cause parts =
    by_fact (nat_le parts.stack_level max_stack_level)
    (max_stack_level < parts.stack_level) LevelTooHigh (many_causes parts) (of_many parts)
    (above parts.stack_level max_stack_level) (not_above parts.stack_level max_stack_level)
    (many_cause parts)

pub parts_refused : (parts : ProfileParts) (refusal : Refusal)
    → (profile_of_parts parts ≡ Err refusal) ↔ IsFirstCause (part_causes parts) (Some refusal)
parts_refused parts refusal =
    refused_law (part_causes parts) (profile_of_parts parts) (part_cause parts) refusal

-- ---- the profile

made_of : {F O : Type 0} → (parts : ProfileParts) (profile : Profile)
    (low : Result (nat_le parts.stack_level max_stack_level ≡ true) Refusal)
    (few : Result F Refusal) (ordered : Result O Refusal)
    → (kind : Option Kind) → kind ≡ kind_of parts.kind parts.recurrency
    → (low >>= (λ is_low. few
    >>= (λ is_few. ordered
    >>= (λ are_ordered. value_or NoRecurrency kind >>= (λ k. Ok (profile_with parts k is_low))))))
    ≡ Ok profile → IsProfileOf parts profile
made_of parts profile (Ok low) (Ok few) (Ok ordered) (Some kind) is e =
    let made : profile_with parts kind low ≡ profile = cc in
    subst (IsProfileOf parts) made (record {
      id = refl;
      transaction = refl;
      stack_level = refl;
      purpose = refl;
      kind = is;
      valid_from = refl;
      valid_to = refl;
      duration = refl;
      start = refl;
      unit = refl;
      periods = refl;
      min_charging_rate = refl;
    })
made_of parts profile (Ok low) (Ok few) (Ok ordered) None is e = cc
made_of parts profile (Ok low) (Ok few) (Err refusal) kind is e = cc
made_of parts profile (Ok low) (Err refusal) ordered kind is e = cc
made_of parts profile (Err refusal) few ordered kind is e = cc

pub parts_made : (parts : ProfileParts) (profile : Profile) → (profile_of_parts parts ≡ Ok profile)
    ↔ (IsFirstCause (part_causes parts) None × IsProfileOf parts profile)
parts_made parts profile = (
  λ e. (
    none_refused (part_causes parts) (profile_of_parts parts) (part_cause parts) profile e,
    made_of parts profile (fact_or LevelTooHigh (nat_le parts.stack_level max_stack_level))
        (fact_or TooManyPeriods (nat_le (length parts.schedule.periods) max_periods))
        (fact_or PeriodsOutOfOrder (are_in_order parts.schedule.periods))
        (kind_of parts.kind parts.recurrency) refl e,
  ),
  λ h. back h.0 h.1,
)
  where
    back : IsFirstCause (part_causes parts) None → IsProfileOf parts profile
        → profile_of_parts parts ≡ Ok profile
    back (inl here) is = cc (here.1)
    back (inr (low, inl here)) is = cc (here.1)
    back (inr (low, inr (few, inl here))) is = cc (here.1)
    back (inr (low, inr (few, inr (ordered, rest)))) is =
        let short : length parts.schedule.periods ≤ max_periods = grind (arith, few) in
        profile_made parts profile short (tested (are_in_order parts.schedule.periods) refl) is
      where
        tested : (b : Bool) → are_in_order parts.schedule.periods ≡ b
            → are_in_order parts.schedule.periods ≡ true
        tested true e = e
        tested false e = absurd (ordered (out_of_order parts.schedule.periods e))
