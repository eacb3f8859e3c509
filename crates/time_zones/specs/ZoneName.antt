-- The bytes of a zone's name.
use Rattle.std.specs.Prelude.{ℕ, nat_le, ◌==◌, Bool, ◌&&◌, ◌||◌}

-- A letter, a digit, `_`, `-`, `+` or `/`. A dot isn't one, so no name leads to a parent folder.
abbrev pub is_zone_byte : ℕ → Bool
is_zone_byte b =
    (nat_le 65 b && nat_le b 90) || (nat_le 97 b && nat_le b 122) || (nat_le 48 b && nat_le b 57)
    || (b == 95) || (b == 45) || (b == 43) || (b == 47)
