-- One step after another, up to the first fault: `do` for `Result`.
use Rattle.std.specs.Prelude.{Result, Ok, Err}

infixl 10 ◌>>=◌
abbrev pub ◌>>=◌ : {A B E : Type 0} → Result A E → (A → Result B E) → Result B E
(Ok a) >>= next = next a
(Err fault) >>= next = Err fault
