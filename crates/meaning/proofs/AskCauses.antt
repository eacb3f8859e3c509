-- Numbers are refused by the first of their causes that holds; if none holds, they make the request
-- of these numbers.
use Rattle.std.proofs.Common.{◌≡◌, ℕ, ◌+◌, ◌-◌, ◌<◌, nat_le, nat_lt, Bool, true, false, ◌⊎◌, ◌↔◌, inl, inr, List, [], ◌∷◌, Some, None, Result, Ok, Err, refl, sym, subst, arith, leb-true, ltb-true}
use Rattle.std.specs.Result.{result_err}
use Rattle.std.proofs.lemmas.Bool.Decides.{nat_tests}
use Rattle.ocpp_scalars.specs.declared.refusal.Refusal.{Refusal}
use Rattle.ocpp_scalars.specs.declared.refusal.Refusal.TheVariants.{BadDuration, PastCalendar}
use Rattle.ocpp_scalars.specs.Limits.{last_second}
use Rattle.ocpp_scalars.specs.ResultSteps.{◌>>=◌}
use Rattle.ocpp_scalars.specs.Causes.{Cause, ◌because◌, IsFirstCause}
use Rattle.ocpp_scalars.specs.Theory.Causes.{refused_law, none_refused}
use Rattle.profile.specs.Refusing.{fact_or}
use Rattle.profile.specs.Theory.Refusing.{by_fact}
use Rattle.meaning.specs.declared.ask.Ask.{Ask}
use Rattle.meaning.specs.Limits.{max_duration}
use Rattle.meaning.specs.Ask.{IsPastCalendar, IsAskOf, ask_causes, ask_of}
use Rattle.meaning.specs.ByCases.Ask.{ask_with}
use Rattle.meaning.proofs.AskLemmas.{ask_made}

-- two tests for one cause
by_both : {X : Type 0} → (one other : Bool) (holds : Type 0) (refusal : Refusal)
    (later : List Cause) (next : one ≡ true → other ≡ true → Result X Refusal)
    → (one ≡ false → holds) → (other ≡ false → holds) → (one ≡ true → other ≡ true → ¬ holds)
    → ((a : one ≡ true) (b : other ≡ true) → IsFirstCause later (result_err (next a b)))
    → IsFirstCause ((refusal because holds) ∷ later)
    (result_err (fact_or refusal one >>= (λ a. fact_or refusal other >>= next a)))
by_both true true holds refusal later next first second passed rest =
    inr (passed refl refl, rest refl refl)
by_both true false holds refusal later next first second passed rest = inl (second refl, refl)
by_both false other holds refusal later next first second passed rest = inl (first refl, refl)

good_duration : (duration : ℕ) → nat_lt 0 duration ≡ true → nat_le duration max_duration ≡ true
    → ¬ ((duration ≡ 0) ⊎ (max_duration < duration))
good_duration duration some most (inl none) = absurd (omega (arith, ltb-true 0 duration some, none))
good_duration duration some most (inr long) =
    absurd (omega (arith, leb-true duration max_duration most, long))

-- the last requested second is the latest one
past_calendar : (start duration : ℕ) → nat_lt 0 duration ≡ true
    → nat_le (start + duration) (last_second + 1) ≡ false → IsPastCalendar start duration
past_calendar start duration some fails =
    let past : last_second + 1 < start + duration = grind (arith, nat_tests) in
    record {
      second = duration - 1;
      asked = omega (arith, ltb-true 0 duration some);
      past = omega (arith, ltb-true 0 duration some, past);
    }

within_calendar : (start duration : ℕ) → nat_le (start + duration) (last_second + 1) ≡ true
    → ¬ IsPastCalendar start duration
within_calendar start duration within is =
    absurd (omega (arith, leb-true (start + duration) (last_second + 1) within, is.asked, is.past))

module _ (connector start duration : ℕ) where
  abbrev IsSome : Type 0
  IsSome = nat_lt 0 duration ≡ true

  abbrev Most : Type 0
  Most = nat_le duration max_duration ≡ true

  abbrev calendar_causes : List Cause
  calendar_causes = (PastCalendar because IsPastCalendar start duration) ∷ []

  abbrev of_calendar : IsSome → Most → Result Ask Refusal
  of_calendar some most =
      fact_or PastCalendar (nat_le (start + duration) (last_second + 1))
      >>= (λ within. Ok (ask_with connector start duration some most within))

  calendar_cause : (some : IsSome) (most : Most)
      → IsFirstCause calendar_causes (result_err (of_calendar some most))
  calendar_cause some most =
      by_fact (nat_le (start + duration) (last_second + 1))
      (IsPastCalendar start duration) PastCalendar []
      (λ within. Ok (ask_with connector start duration some most within))
      (past_calendar start duration some) (within_calendar start duration) (λ within. refl)

  no_duration : nat_lt 0 duration ≡ false → (duration ≡ 0) ⊎ (max_duration < duration)
  no_duration fails = let none : duration ≡ 0 = grind (arith, nat_tests) in inl none

  long_duration : nat_le duration max_duration ≡ false → (duration ≡ 0) ⊎ (max_duration < duration)
  long_duration fails = let long : max_duration < duration = grind (arith, nat_tests) in inr long

  ask_cause : IsFirstCause (ask_causes start duration)
      (result_err (ask_of connector start duration))
  ask_cause =
      by_both (nat_lt 0 duration) (nat_le duration max_duration)
      ((duration ≡ 0) ⊎ (max_duration < duration)) BadDuration calendar_causes of_calendar
      no_duration long_duration (good_duration duration) calendar_cause

pub asks_refused : (connector start duration : ℕ) (refusal : Refusal)
    → (ask_of connector start duration ≡ Err refusal)
    ↔ IsFirstCause (ask_causes start duration) (Some refusal)
asks_refused connector start duration refusal =
    refused_law (ask_causes start duration) (ask_of connector start duration)
    (ask_cause connector start duration) refusal

made_of : (connector start duration : ℕ) (ask : Ask)
    (some : Result (nat_lt 0 duration ≡ true) Refusal)
    (most : Result (nat_le duration max_duration ≡ true) Refusal)
    → (within : Result (nat_le (start + duration) (last_second + 1) ≡ true) Refusal)
    → (some >>= (λ s. most
    >>= (λ m. within >>= (λ w. Ok (ask_with connector start duration s m w))))) ≡ Ok ask
    → IsAskOf connector start duration ask
made_of connector start duration ask (Ok some) (Ok most) (Ok within) e =
    let made : ask_with connector start duration some most within ≡ ask = cc in
    subst (IsAskOf connector start duration) made
    (record { connector_is = refl; start_is = refl; duration_is = refl })
made_of connector start duration ask (Ok some) (Ok most) (Err refusal) e = cc
made_of connector start duration ask (Ok some) (Err refusal) within e = cc
made_of connector start duration ask (Err refusal) most within e = cc

pub asks_made : (connector start duration : ℕ) (ask : Ask)
    → (ask_of connector start duration ≡ Ok ask)
    ↔ (IsFirstCause (ask_causes start duration) None × IsAskOf connector start duration ask)
asks_made connector start duration ask = (
  λ e. (
    none_refused (ask_causes start duration) (ask_of connector start duration)
        (ask_cause connector start duration) ask e,
    made_of connector start duration ask (fact_or BadDuration (nat_lt 0 duration))
        (fact_or BadDuration (nat_le duration max_duration))
        (fact_or PastCalendar (nat_le (start + duration) (last_second + 1))) e,
  ),
  λ h. rw (sym h.1.connector_is, sym h.1.start_is, sym h.1.duration_is) (ask_made ask),
)
