-- The reason for a refusal: the first cause that holds, in the order in which causes are checked.
use Rattle.std.specs.Prelude.{◌≡◌, ◌⊎◌, List, [], ◌∷◌, Option, Some, None}
use Rattle.ocpp_scalars.specs.declared.refusal.Refusal.{Refusal}

-- a refusal, and the condition for it
pub record Cause : Type 1 where
  pub refusal : Refusal
  pub holds : Type 0

infix 0 ◌because◌
abbrev pub ◌because◌ : Refusal → Type 0 → Cause
refusal because holds = record { refusal = refusal; holds = holds }

-- The refusal is that of the first cause that holds; there is no refusal exactly if no cause holds.
abbrev pub IsFirstCause : List Cause → Option Refusal → Type 0
IsFirstCause [] refusal = refusal ≡ None
IsFirstCause (cause ∷ later) refusal =
    (cause.holds × (refusal ≡ Some cause.refusal)) ⊎ ((¬ cause.holds) × IsFirstCause later refusal)
