-- Steps of a `do` that may refuse.
use Rattle.std.specs.Prelude.{◌≡◌, Bool, true, false, Option, Some, None, Result, Ok, Err, refl}

-- a proof that a test holds, or a refusal
abbrev pub fact_or : {E : Type 0} → E → (test : Bool) → Result (test ≡ true) E
fact_or refusal true = Ok refl
fact_or refusal false = Err refusal

-- a value if there is one, or a refusal
abbrev pub value_or : {X E : Type 0} → E → Option X → Result X E
value_or refusal (Some value) = Ok value
value_or refusal None = Err refusal
