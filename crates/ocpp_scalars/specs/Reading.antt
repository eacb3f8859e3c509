-- The result of a reader that needs memory, for the contracts of all readers above.
use Rattle.std.specs.Prelude.{◌≡◌, Bool, true, false, Result, Ok, Err}

-- a fault is that of the reading, unless it is a failed allocation
abbrev pub IsFaultUnless : {A E : Type 0} → Bool → E → Result A E → Type 0
IsFaultUnless true fault reading = Unit {0}
IsFaultUnless false fault reading = reading ≡ Err fault

-- the result is the reading, a value seen by `view` or a fault, unless an allocation failed
abbrev pub ReadsUnless : {X A E : Type 0} → (E → Bool) → (X → A) → Result X E → Result A E → Type 0
ReadsUnless is_memory view (Ok x) reading = reading ≡ Ok (view x)
ReadsUnless is_memory view (Err fault) reading = IsFaultUnless (is_memory fault) fault reading
