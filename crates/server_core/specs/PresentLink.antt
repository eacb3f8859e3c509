-- The newest link that a point got. Links are numbered in the order in which points get them.
use Rattle.std.specs.Prelude.{ℕ, ◌==◌, Bool, true, false, nat_lt, if◌then◌else◌}

pub record PresentState : Type 0 where
  pub link : ℕ
  -- whether the connection of that link is still there
  pub is_connected : Bool

abbrev pub never_connected : PresentState
never_connected = record { link = 0; is_connected = false }

-- a connection with this link enters: of two connections the one with the later link stays
abbrev pub entered : PresentState → ℕ → PresentState
entered present link =
    if nat_lt link present.link then present else record { link = link; is_connected = true }

-- The connection with this link has ended. Another one stays, and no earlier one is taken for the
-- newest.
abbrev pub left : PresentState → ℕ → PresentState
left present link =
    if present.link == link then record present { is_connected = false } else present
