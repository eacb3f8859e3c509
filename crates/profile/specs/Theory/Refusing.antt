-- Lemmas that crates above cite: nothing here has to be believed.
-- A step of a `do` that may refuse has its cause; otherwise the later steps decide.
use Rattle.std.proofs.Common.{◌≡◌, Bool, true, false, List, ◌∷◌, inl, inr, Option, Some, None, Result, refl}
use Rattle.std.specs.Result.{result_err}
use Rattle.ocpp_scalars.specs.declared.refusal.Refusal.{Refusal}
use Rattle.ocpp_scalars.specs.ResultSteps.{◌>>=◌}
use Rattle.ocpp_scalars.specs.Causes.{Cause, ◌because◌, IsFirstCause}
use Rattle.profile.specs.Refusing.{fact_or, value_or}

pub by_fact : {X : Type 0} → (test : Bool) (holds : Type 0) (refusal : Refusal) (later : List Cause)
    (next : test ≡ true → Result X Refusal)
    → (test ≡ false → holds) → (test ≡ true → ¬ holds)
    → ((fact : test ≡ true) → IsFirstCause later (result_err (next fact)))
    → IsFirstCause ((refusal because holds) ∷ later) (result_err (fact_or refusal test >>= next))
by_fact true holds refusal later next held passed rest = inr (passed refl, rest refl)
by_fact false holds refusal later next held passed rest = inl (held refl, refl)

pub by_value : {X Y : Type 0} → (value : Option Y) (holds : Type 0) (refusal : Refusal)
    (later : List Cause) (next : Y → Result X Refusal)
    → (value ≡ None → holds) → ((y : Y) → value ≡ Some y → ¬ holds)
    → ((y : Y) → IsFirstCause later (result_err (next y)))
    → IsFirstCause ((refusal because holds) ∷ later) (result_err (value_or refusal value >>= next))
by_value (Some y) holds refusal later next held passed rest = inr (passed y refl, rest y)
by_value None holds refusal later next held passed rest = inl (held refl, refl)
