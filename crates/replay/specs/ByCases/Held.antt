-- For private clauses: whether a held request has a number.
use Rattle.std.specs.Prelude.{ℕ, ◌==◌, Bool}
use Rattle.replay.specs.declared.player.held.Held.{Held}

abbrev pub has_number : ℕ → Held → Bool
has_number number held = held.number == number
