-- For private clauses: the first number after another that passes a test.
use Rattle.std.specs.Prelude.{◌≡◌, ℕ, ◌<◌, ◌==◌, Bool, true, false, List, Option, Some, None}
use Rattle.std.specs.List.{list_any}
use Rattle.profile.specs.declared.period.Period.{Period}

pub record IsFirstAfter (test : ℕ → Bool) (n first : ℕ) : Type 0 where
  pub later : n < first
  pub passes : test first ≡ true
  pub fails_between : (k : ℕ) → n < k → k < first → test k ≡ false

-- the first number after another that passes a test; with None, no later number passes
abbrev pub IsNext : (ℕ → Bool) → ℕ → Option ℕ → Type 0
IsNext test n None = (k : ℕ) → n < k → test k ≡ false
IsNext test n (Some first) = IsFirstAfter test n first

-- whether a period starts at an offset
abbrev pub is_start : List Period → ℕ → Bool
is_start periods offset = list_any (λ (period : Period). offset == period.start) periods
