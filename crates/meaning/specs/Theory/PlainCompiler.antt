-- Lemmas that crates above cite: nothing here has to be believed.
-- The period that one more second adds to the exact periods, and when they are too many.
use Rattle.std.proofs.Common.{◌≡◌, ℕ, ◌+◌, ◌-◌, ◌<◌, ◌≤◌, zero, suc, Bool, List, [], ◌∷◌, ◌++◌, length, cond, Option, Some, None, refl, ap, sym, ◌∙◌, arith}
use Rattle.std.proofs.lemmas.List.{length-append}
use Rattle.ocpp_scalars.specs.declared.refusal.Refusal.{Refusal}
use Rattle.ocpp_scalars.specs.declared.refusal.Refusal.TheVariants.{ResultTooLong, OutOfMemory}
use Rattle.meaning.specs.declared.composite.CompositePeriod.{CompositePeriod}
use Rattle.meaning.specs.Limits.{max_composite_periods}
use Rattle.meaning.specs.ByCases.Exact.{begins_period, period_from, exact_periods}
use Rattle.meaning.specs.Compiled.{IsTooLong, IsPermitted}
use Rattle.meaning.specs.ByCases.PlainCompiler.{differs, period_added, IsAddRefused}
use Rattle.meaning.specs.Theory.ExactPeriods.{exact_is, periods_more, periods_grow}

-- the limit at the second before, if there is one
abbrev pub limit_before : (ℕ → ℕ) → ℕ → Option ℕ
limit_before limit zero = None
limit_before limit (suc before) = Some (limit before)

differs_is : (limit : ℕ → ℕ) (n : ℕ) → differs (limit_before limit n) (limit n) ≡ begins_period limit n
differs_is limit zero = refl
differs_is limit (suc before) = refl

-- the period that one second adds
pub periods_added : (limit : ℕ → ℕ) (n : ℕ) (periods : List CompositePeriod) (before : Option ℕ) (value : ℕ)
    → periods ≡ exact_periods limit n → before ≡ limit_before limit n → value ≡ limit n
    → periods ++ period_added before (record { start = n; limit = value }) ≡ exact_periods limit (n + 1)
periods_added limit n periods before value h k e =
    ap (λ (ps : List CompositePeriod). ps ++ period_added before (record { start = n; limit = value })) h
    ∙ (ap (λ (b : Option ℕ). exact_periods limit n ++ period_added b (record { start = n; limit = value })) k
    ∙ (ap (λ (m : ℕ). exact_periods limit n ++ period_added (limit_before limit n) (record { start = n; limit = m })) e
    ∙ (ap (λ (b : Bool). exact_periods limit n ++ cond b (period_from limit n ∷ []) []) (differs_is limit n)
    ∙ sym (periods_more limit n))))

pub too_long : (limit : ℕ → ℕ) (duration n : ℕ) → n < duration → max_composite_periods < length (exact_periods limit (n + 1)) → IsTooLong limit duration
too_long limit duration n h many = record {
  more = λ periods exact.
      let rest : (n + 1) + (duration - (n + 1)) ≡ duration = omega arith in
      let grown = periods_grow limit (n + 1) (duration - (n + 1)) in
      let all : length (exact_periods limit (n + 1)) ≤ length (exact_periods limit duration) = rw rest at grown in
      rw (exact_is limit duration periods exact) (omega (arith, many, all));
}

pub permitted : (limit : ℕ → ℕ) (duration n : ℕ) (periods : List CompositePeriod) (before : Option ℕ) (value : ℕ) (refusal : Refusal)
    → periods ≡ exact_periods limit n → before ≡ limit_before limit n → value ≡ limit n → n < duration
    → IsAddRefused (length periods + length (period_added before (record { start = n; limit = value }))) refusal → IsPermitted limit duration refusal
permitted limit duration n periods before value ResultTooLong h k e below many =
    let added = ap length (periods_added limit n periods before value h k e) in
    let both = length-append periods (period_added before (record { start = n; limit = value })) in
    too_long limit duration n below (omega (arith, many, added, both))
permitted limit duration n periods before value OutOfMemory h k e below many = tt
permitted limit duration n periods before value other h k e below many = absurd many
