-- A compiler returns the computed schedule, or that it is too long.
use Rattle.std.proofs.Common.{◌≡◌, ℕ, ◌<◌, ◌≤◌, nat_lt, length, Bool, true, false, cond, Result, Ok, Err, refl, sym, arith}
use Rattle.std.proofs.lemmas.Bool.Decides.{nat_tests}
use Rattle.ocpp_scalars.specs.declared.refusal.Refusal.{Refusal}
use Rattle.ocpp_scalars.specs.declared.refusal.Refusal.TheVariants.{ResultTooLong}
use Rattle.meaning.specs.Limits.{max_composite_periods}
use Rattle.meaning.specs.Composite.{CompositeSchedule}
use Rattle.meaning.specs.Compiled.{IsExactAnswer, IsTooLong}
use Rattle.meaning.specs.ByCases.Exact.{exact_periods, exact_schedule}
use Rattle.meaning.specs.Theory.ExactPeriods.{exact_is, exact_are}
use Rattle.meaning.specs.Theory.ExactAnswers.{made}

pub computed : (limit : ℕ → ℕ) (duration : ℕ) (schedule : CompositeSchedule) → IsExactAnswer limit duration schedule → exact_schedule limit duration ≡ Ok schedule
computed limit duration schedule answer =
    let same = exact_is limit duration schedule.periods answer.exact in
    let few : length (exact_periods limit duration) ≤ max_composite_periods = rw (sym same) answer.few in
    let short : nat_lt max_composite_periods (length (exact_periods limit duration)) ≡ false = grind (arith, nat_tests) in
    rw short (λ i. Ok (record { duration = sym answer.lasts i; periods = sym same i }))

pub refused : (limit : ℕ → ℕ) (duration : ℕ) → 0 < duration → IsTooLong limit duration → exact_schedule limit duration ≡ Err ResultTooLong
refused limit duration some long =
    let many = long.more (exact_periods limit duration) (exact_are limit duration some) in
    let over : nat_lt max_composite_periods (length (exact_periods limit duration)) ≡ true = grind (arith, nat_tests) in
    rw over refl

pub too_long-is : (limit : ℕ → ℕ) (duration : ℕ) → exact_schedule limit duration ≡ Err ResultTooLong → IsTooLong limit duration
too_long-is limit duration is = go (nat_lt max_composite_periods (length (exact_periods limit duration))) refl is
  where
    go : (b : Bool) → nat_lt max_composite_periods (length (exact_periods limit duration)) ≡ b → ◌≡◌ {A = Result CompositeSchedule Refusal} (cond b (Err ResultTooLong) (Ok (made limit duration))) (Err ResultTooLong)
        → IsTooLong limit duration
    go true long is = record {
      more = λ periods exact. let many : max_composite_periods < length (exact_periods limit duration) = grind (arith, nat_tests) in rw (exact_is limit duration periods exact) many;
    }
    go false short is = cc
