-- A key of the site, and the passwords that open it.
use Rattle.std.specs.Prelude.{ℕ, ◌≡◌, List, ◌++◌, Any}
use Rattle.std.specs.Result.{result_unwrap_or}
use Rattle.hex.specs.Hex.{decode_sized}
use Rattle.sha2.specs.Sha256.{sha256}
use Rattle.site_keys.specs.declared.role.Role.{Role}
use Rattle.site_keys.specs.Limits.{key_size}

pub record KeyState : Type 0 where
  pub role : Role
  pub user : List ℕ
  pub salt : List ℕ
  pub digest : List ℕ

-- The key bytes of a password (OCPP-J 1.6, 6.2): an AuthorizationKey has 20 bytes, and a station
-- sends these or the 40 hex digits that encode them. Any other password has its own bytes.
unfoldable pub key_bytes : List ℕ → List ℕ
key_bytes password = result_unwrap_or (decode_sized password key_size) password

-- the key is this role's and user's, and has this password's digest
pub record Opens (key : KeyState) (role : Role) (user password : List ℕ) : Type 0 where
  pub same_role : key.role ≡ role
  pub same_user : key.user ≡ user
  pub same_digest : key.digest ≡ sha256 (key.salt ++ key_bytes password)

-- the password opens some key
abbrev pub HasRightKey : List KeyState → Role → List ℕ → List ℕ → Type 0
HasRightKey keys role user password = Any (λ (key : KeyState). Opens key role user password) keys
