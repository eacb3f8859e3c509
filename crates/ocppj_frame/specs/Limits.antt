-- The limits of a frame.
use Rattle.std.specs.Prelude.{ℕ}

-- The maximum length of a frame's text, in bytes: our choice, since OCPP-J sets no limit.
abbrev pub max_frame_bytes : ℕ
max_frame_bytes = 1_048_576

-- The maximum length of a message id, in characters (OCPP-J 1.6, section 4.1.4).
abbrev pub max_id_characters : ℕ
max_id_characters = 36
