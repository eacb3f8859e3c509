-- The bytes of ASCII (RFC 20, section 2) that definitions name.
use Rattle.std.specs.Prelude.{ℕ}

abbrev pub line_feed : ℕ
line_feed = 10

abbrev pub space : ℕ
space = 32

abbrev pub quote : ℕ
quote = 34

abbrev pub plus : ℕ
plus = 43

abbrev pub comma : ℕ
comma = 44

abbrev pub minus : ℕ
minus = 45

abbrev pub dot : ℕ
dot = 46

abbrev pub digit_zero : ℕ
digit_zero = 48

abbrev pub digit_nine : ℕ
digit_nine = 57

abbrev pub colon : ℕ
colon = 58

abbrev pub upper_e : ℕ
upper_e = 69

abbrev pub upper_t : ℕ
upper_t = 84

abbrev pub upper_z : ℕ
upper_z = 90

abbrev pub open_bracket : ℕ
open_bracket = 91

abbrev pub close_bracket : ℕ
close_bracket = 93

abbrev pub underscore : ℕ
underscore = 95

abbrev pub lower_e : ℕ
lower_e = 101

abbrev pub lower_n : ℕ
lower_n = 110

abbrev pub lower_t : ℕ
lower_t = 116

abbrev pub lower_z : ℕ
lower_z = 122

abbrev pub open_brace : ℕ
open_brace = 123

abbrev pub close_brace : ℕ
close_brace = 125

abbrev pub tilde : ℕ
tilde = 126
