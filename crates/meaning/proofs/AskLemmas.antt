-- The numbers that may be requested determine one request.
use Rattle.std.proofs.Common.{◌≡◌, ℕ, ◌+◌, ◌<◌, ◌≤◌, nat_le, nat_lt, Bool, true, false, Ok, Err, refl, ap, ltb-true, leb-true, arith}
use Rattle.std.proofs.Math.Bool.{Bool-set}
use Rattle.std.proofs.Math.Bridge.{le_prop}
use Rattle.std.proofs.lemmas.Bool.Decides.{nat_tests}
use Rattle.ocpp_scalars.specs.declared.refusal.Refusal.{Refusal}
use Rattle.ocpp_scalars.specs.declared.refusal.Refusal.TheVariants.{BadDuration, PastCalendar}
use Rattle.ocpp_scalars.specs.Limits.{last_second}
use Rattle.profile.specs.Refusing.{fact_or}
use Rattle.meaning.specs.declared.ask.Ask.{Ask}
use Rattle.meaning.specs.Limits.{max_duration}
use Rattle.meaning.specs.Ask.{ask_of}
use Rattle.meaning.specs.ByCases.Ask.{ask_with}

fact_or-true : (refusal : Refusal) (test : Bool) (holds : test ≡ true) → fact_or refusal test ≡ Ok holds
fact_or-true refusal true holds = ap Ok (Bool-set true true refl holds)
fact_or-true refusal false holds = cc

fact_or-false : (refusal : Refusal) (test : Bool) → test ≡ false → fact_or refusal test ≡ Err refusal
fact_or-false refusal true fails = cc
fact_or-false refusal false fails = refl

pub none_refused : (connector start duration : ℕ) → duration ≡ 0 → ask_of connector start duration ≡ Err BadDuration
none_refused connector start duration none =
    let fails : nat_lt 0 duration ≡ false = grind (arith, nat_tests) in
    rw (fact_or-false BadDuration _ fails) refl

pub long_refused : (connector start duration : ℕ) → max_duration < duration → ask_of connector start duration ≡ Err BadDuration
long_refused connector start duration long =
    let some : nat_lt 0 duration ≡ true = grind (arith, nat_tests) in
    let fails : nat_le duration max_duration ≡ false = grind (arith, nat_tests) in
    rw (fact_or-true BadDuration _ some, fact_or-false BadDuration _ fails) refl

pub past_refused : (connector start duration : ℕ) → 0 < duration → duration ≤ max_duration → last_second + 1 < start + duration
    → ask_of connector start duration ≡ Err PastCalendar
past_refused connector start duration some most past =
    let first : nat_lt 0 duration ≡ true = grind (arith, nat_tests) in
    let second : nat_le duration max_duration ≡ true = grind (arith, nat_tests) in
    let fails : nat_le (start + duration) (last_second + 1) ≡ false = grind (arith, nat_tests) in
    rw (fact_or-true BadDuration _ first, fact_or-true BadDuration _ second, fact_or-false PastCalendar _ fails) refl

same_ask : (ask : Ask) (some : nat_lt 0 ask.duration ≡ true) (most : nat_le ask.duration max_duration ≡ true) (within : nat_le (ask.start + ask.duration) (last_second + 1) ≡ true)
    → ask_with ask.connector ask.start ask.duration some most within ≡ ask
same_ask ask some most within = λ i. record {
  connector = ask.connector;
  start = ask.start;
  duration = ask.duration;
  some = le_prop (ltb-true 0 ask.duration some) ask.some i;
  most = le_prop (leb-true ask.duration max_duration most) ask.most i;
  within = le_prop (leb-true (ask.start + ask.duration) (last_second + 1) within) ask.within i;
}

pub ask_made : (ask : Ask) → ask_of ask.connector ask.start ask.duration ≡ Ok ask
ask_made ask =
    let some : nat_lt 0 ask.duration ≡ true = grind (arith, nat_tests) in
    let most : nat_le ask.duration max_duration ≡ true = grind (arith, nat_tests) in
    let within : nat_le (ask.start + ask.duration) (last_second + 1) ≡ true = grind (arith, nat_tests) in
    rw (fact_or-true BadDuration _ some, fact_or-true BadDuration _ most, fact_or-true PastCalendar _ within) (ap Ok (same_ask ask some most within))
