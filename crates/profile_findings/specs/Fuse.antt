-- The raise and the removal of a fuse limit, which a point may lack.
use Rattle.std.specs.Prelude.{⊤, ℕ, ◌<◌, Option, None, Some}

-- there was a limit, and it is higher now
abbrev pub IsRaised : Option ℕ → Option ℕ → Type 0
IsRaised (Some was) (Some now) = was < now
IsRaised _ _ = ⊥

-- it is higher, or there is none any more
abbrev pub IsRaisedOrGone : Option ℕ → Option ℕ → Type 0
IsRaisedOrGone (Some was) None = ⊤
IsRaisedOrGone before after = IsRaised before after
