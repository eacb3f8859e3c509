-- The numbers of requests and calls in a text, from 1 on. Call 0 is read separately.
use Rattle.std.specs.Prelude.{ℕ, ◌≡◌, ◌≤◌, List}
use Rattle.std.specs.Fmt.{decimal}
use Rattle.site_core.specs.Limits.{max_number}

-- a number from 1 to the highest
abbrev pub IsNumber : ℕ → Type 0
IsNumber number = (1 ≤ number) × (number ≤ max_number)

-- a word is the decimal text of such a number
abbrev pub IsDecimalOf : List ℕ → ℕ → Type 0
IsDecimalOf word number = (word ≡ decimal number) × IsNumber number
