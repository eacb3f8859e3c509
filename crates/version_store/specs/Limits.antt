-- The number of stored events of a history.
use Rattle.std.specs.Prelude.{ℕ}

-- with this many events, a call that adds one folds the history first
abbrev pub fold_from : ℕ
fold_from = 3900

-- the number of events for which there is memory from the beginning
abbrev pub room : ℕ
room = 4096
