-- HTTP Basic (RFC 7617): the user and the password of an Authorization header.
use Rattle.std.specs.Prelude.{ℕ, ◌≡◌, ◌≢◌, List, ◌++◌, map, replicate, codes, All, IsTrue}
use Rattle.std.specs.Char.{to_ascii_lowercase}
use Rattle.std.specs.Str.{is_utf8}
use Rattle.base64.specs.Engines.{standard}
use Rattle.base64.specs.GeneralPurpose.{IsBytes, encode_of}
use Rattle.site_keys.specs.Bytes.{space, colon}

-- the base64 of bytes, in the standard alphabet and with its padding (RFC 4648, 4)
unfoldable pub base64_text : List ℕ → List ℕ
base64_text bytes = encode_of standard bytes

pub record IsBase64 (text bytes : List ℕ) : Type 0 where
  pub is : text ≡ base64_text bytes
  pub are_bytes : IsBytes bytes

-- a header with these bytes: the scheme `Basic` in any case, at least one space (RFC 9110, 11.4),
-- and their base64
pub record HasSent (header bytes : List ℕ) : Type 0 where
  pub scheme : List ℕ
  pub any_case : map to_ascii_lowercase scheme ≡ codes "basic"
  pub more_spaces : ℕ
  pub token : List ℕ
  pub is : header ≡ scheme ++ codes " " ++ (replicate more_spaces space ++ token)
  pub of_bytes : IsBase64 token bytes

-- a user, a colon and a password: the user is UTF-8 and has no colon, the password is any bytes
pub record AreCredentials (bytes user password : List ℕ) : Type 0 where
  pub is : bytes ≡ user ++ codes ":" ++ password
  pub text : IsTrue (is_utf8 user)
  pub no_colon : All (λ b. b ≢ colon) user

-- a header with this user and password
pub record IsBasic (header user password : List ℕ) : Type 0 where
  pub bytes : List ℕ
  pub sent : HasSent header bytes
  pub credentials : AreCredentials bytes user password

-- a header with this user, whatever the password
pub record HasUser (header user : List ℕ) : Type 0 where
  pub password : List ℕ
  pub sent : IsBasic header user password
