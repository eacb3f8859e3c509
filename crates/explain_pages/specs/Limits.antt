-- The limits of pictures, so that no file grows without bound.
use Rattle.std.specs.Prelude.{ℕ}

-- the most steps of a profile's line (this system's choice: a Daily profile with 200 periods has
-- about 1,400 in a week, and past ten days its line is cut)
abbrev pub max_steps : ℕ
max_steps = 2_000
