-- Lemmas that crates above cite: nothing here has to be believed.
-- The computed schedule is an exact answer.
use Rattle.std.proofs.Common.{◌≡◌, ℕ, ◌<◌, ◌≤◌, nat_lt, length, Bool, true, false, cond, List, Result, Ok, Err, refl, sym, arith}
use Rattle.std.proofs.lemmas.Bool.Decides.{nat_tests}
use Rattle.ocpp_scalars.specs.declared.refusal.Refusal.{Refusal}
use Rattle.ocpp_scalars.specs.declared.refusal.Refusal.TheVariants.{ResultTooLong}
use Rattle.meaning.specs.declared.composite.CompositePeriod.{CompositePeriod}
use Rattle.meaning.specs.Limits.{max_composite_periods}
use Rattle.meaning.specs.Composite.{CompositeSchedule, IsSchedule}
use Rattle.meaning.specs.Compiled.{IsExactAnswer}
use Rattle.meaning.specs.ByCases.Exact.{exact_periods, exact_schedule}
use Rattle.meaning.specs.Theory.ExactPeriods.{exact_are}

pub exact_answer : (limit : ℕ → ℕ) (duration : ℕ) (schedule : CompositeSchedule) → 0 < duration → schedule.duration ≡ duration
    → schedule.periods ≡ exact_periods limit duration → length schedule.periods ≤ max_composite_periods → IsExactAnswer limit duration schedule
exact_answer limit duration schedule some lasts same few = record {
  lasts = lasts;
  exact = rw same (exact_are limit duration some);
  few = few;
}

pub is_schedule : (limit : ℕ → ℕ) (duration : ℕ) (periods : List CompositePeriod) → 0 < duration → periods ≡ exact_periods limit duration → IsSchedule duration periods
is_schedule limit duration periods some same =
    let exact = exact_are limit duration some in
    rw same exact.schedule

-- the computed schedule
abbrev pub made : (ℕ → ℕ) → ℕ → CompositeSchedule
made limit duration = record { duration = duration; periods = exact_periods limit duration }

pub answered : (limit : ℕ → ℕ) (duration : ℕ) (schedule : CompositeSchedule) → 0 < duration → exact_schedule limit duration ≡ Ok schedule → IsExactAnswer limit duration schedule
answered limit duration schedule some is = go (nat_lt max_composite_periods (length (exact_periods limit duration))) refl is
  where
    go : (b : Bool) → nat_lt max_composite_periods (length (exact_periods limit duration)) ≡ b → ◌≡◌ {A = Result CompositeSchedule Refusal} (cond b (Err ResultTooLong) (Ok (made limit duration))) (Ok schedule)
        → IsExactAnswer limit duration schedule
    go true long is = cc
    go false short is =
        let same : made limit duration ≡ schedule = cc in
        let few : length (exact_periods limit duration) ≤ max_composite_periods = grind (arith, nat_tests) in
        rw (sym same) (record { lasts = refl; exact = exact_are limit duration some; few = few })
