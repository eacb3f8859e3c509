-- The password of a key, as a test. The clauses of `admit` say the same by `Opens`.
use Rattle.std.specs.Prelude.{ℕ, ◌&&◌, Bool, true, false, List, ◌++◌}
use Rattle.std.specs.List.{list_any}
use Rattle.std.specs.Str.{bytes_eq}
use Rattle.sha2.specs.Sha256.{sha256}
use Rattle.site_keys.specs.declared.role.Role.{Role}
use Rattle.site_keys.specs.declared.role.Role.TheVariants.{Point, Operator}
use Rattle.site_keys.specs.Key.{KeyState, key_bytes}

abbrev pub is_same_role : Role → Role → Bool
is_same_role Point Point = true
is_same_role Operator Operator = true
is_same_role one other = false

abbrev pub is_of : Role → List ℕ → KeyState → Bool
is_of role user key = is_same_role key.role role && bytes_eq key.user user

abbrev pub opens : List ℕ → KeyState → Bool
opens password key = bytes_eq key.digest (sha256 (key.salt ++ key_bytes password))

abbrev pub is_right : Role → List ℕ → List ℕ → KeyState → Bool
is_right role user password key = is_of role user key && opens password key

abbrev pub has_right_key : Role → List ℕ → List ℕ → List KeyState → Bool
has_right_key role user password keys = list_any (is_right role user password) keys
