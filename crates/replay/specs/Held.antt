-- The held requests of a script: those that no line has released yet.
use Rattle.std.specs.Prelude.{ℕ, ◌==◌, if◌then◌else◌, List, [], ◌∷◌, Option, Some, None}
use Rattle.replay.specs.declared.player.held.Held.{Held}

-- the id of the CALL whose request has this number, if that is held; of several, the first
abbrev pub id_held : ℕ → List Held → Option (List ℕ)
id_held number [] = None
id_held number (held ∷ others) =
    if held.number == number then Some held.id else id_held number others

-- the request of this number is released
abbrev pub remove_held : ℕ → List Held → List Held
remove_held number [] = []
remove_held number (held ∷ others) =
    if held.number == number then others else held ∷ remove_held number others
