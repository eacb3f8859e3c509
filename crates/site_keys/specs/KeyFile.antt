-- The file of keys: the form of its lines, and their keys.
use Rattle.std.specs.Prelude.{ℕ, ◌≡◌, ◌==◌, ◌&&◌, nat_lt, Bool, true, not, List, [], ◌∷◌, ◌++◌, length, map, filter, codes, Ok, IsTrue}
use Rattle.std.specs.List.{AllZip, list_all, slice_split}
use Rattle.std.specs.Str.{is_utf8}
use Rattle.hex.specs.Hex.{decode_sized}
use Rattle.site_keys.specs.declared.role.Role.{Role}
use Rattle.site_keys.specs.declared.role.Role.TheVariants.{Point, Operator}
use Rattle.site_keys.specs.Bytes.{line_feed, space, number_sign, colon, delete, is_byte, without_return}
use Rattle.site_keys.specs.Limits.{salt_size, digest_size}
use Rattle.site_keys.specs.Key.{KeyState}

abbrev pub role_word : Role → List ℕ
role_word Point = codes "point"
role_word Operator = codes "operator"

-- no blank, no colon, no control character (RFC 7617, 2)
abbrev pub is_name_byte : ℕ → Bool
is_name_byte b = nat_lt space b && not (b == colon) && not (b == delete)

-- a user's name: one or more such bytes that are UTF-8
unfoldable pub is_name : List ℕ → Bool
is_name name = is_utf8 name && nat_lt 0 (length name) && list_all is_name_byte name

-- a line with a key: its role, its user, and the hex digits, of either case, of its salt and its
-- digest, with one space between them
pub record IsKeyLine (line : List ℕ) (key : KeyState) : Type 0 where
  pub salt_digits : List ℕ
  pub digest_digits : List ℕ
  pub is : line ≡ role_word key.role ++ codes " " ++ key.user ++ codes " " ++ salt_digits
      ++ codes " " ++ digest_digits
  pub user : IsTrue (is_name key.user)
  pub salt : decode_sized salt_digits salt_size ≡ Ok key.salt
  pub digest : decode_sized digest_digits digest_size ≡ Ok key.digest

-- the line is left out: it is empty, or begins with `#`
abbrev pub is_left_out : List ℕ → Bool
is_left_out [] = true
is_left_out (first ∷ rest) = first == number_sign

-- the lines that aren't left out, without a carriage return at their end
abbrev pub with_keys : List (List ℕ) → List (List ℕ)
with_keys lines = filter (λ line. not (is_left_out line)) (map without_return lines)

-- the lines of a file, separated by line feeds; after a line feed at its end there is an empty line
abbrev pub lines_of : List ℕ → List (List ℕ)
lines_of bytes = slice_split (is_byte line_feed) bytes

-- the keys of a file, in the order of its lines
abbrev pub AreKeysOf : List ℕ → List KeyState → Type 0
AreKeysOf bytes keys = AllZip IsKeyLine (with_keys (lines_of bytes)) keys
