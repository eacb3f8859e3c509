-- The limits of scripts, in bytes.
use Rattle.std.specs.Prelude.{ℕ}

-- the longest script (this system's choice)
abbrev pub max_script_bytes : ℕ
max_script_bytes = 16_777_216

-- the longest line of a script, its ending not counted: as long as a frame may be (this system's
-- choice)
abbrev pub max_line_bytes : ℕ
max_line_bytes = 1_048_576
