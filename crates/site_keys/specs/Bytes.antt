-- Names of bytes (ASCII: RFC 20, 2), and splits of a text at a byte.
use Rattle.std.specs.Prelude.{ℕ, ◌-◌, ◌==◌, nat_lt, Bool, List, length, take, drop, slice_index, Option, Some, None, if◌then◌else◌}
use Rattle.std.specs.Str.{is_utf8}
use Rattle.std.specs.List.{position_or_len, prefix_len, before_first, after_first}

abbrev pub line_feed : ℕ
line_feed = 10

abbrev pub carriage_return : ℕ
carriage_return = 13

abbrev pub space : ℕ
space = 32

abbrev pub number_sign : ℕ
number_sign = 35

abbrev pub colon : ℕ
colon = 58

abbrev pub delete : ℕ
delete = 127

abbrev pub is_byte : ℕ → ℕ → Bool
is_byte byte b = b == byte

-- the parts before and after the first such byte
abbrev pub cut : ℕ → List ℕ → Option (List ℕ × List ℕ)
cut byte text =
    if nat_lt (position_or_len (is_byte byte) text) (length text)
    then Some (before_first (is_byte byte) text, after_first (is_byte byte) text)
    else None

-- a text without its leading spaces
abbrev pub without_spaces : List ℕ → List ℕ
without_spaces text = drop (prefix_len (is_byte space) text) text

-- a line without the carriage return at its end, if it has one
abbrev pub without_return : List ℕ → List ℕ
without_return line =
    if slice_index line (length line - 1) == carriage_return then take (length line - 1) line
    else line

-- bytes as a text, if they are UTF-8 (RFC 3629)
abbrev pub text_in : List ℕ → Option (List ℕ)
text_in bytes = if is_utf8 bytes then Some bytes else None
