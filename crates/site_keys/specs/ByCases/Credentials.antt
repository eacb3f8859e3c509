-- The user and the password of a header, step by step. The clauses of `admit` say the same by
-- `IsBasic`.
use Rattle.std.specs.Prelude.{ℕ, List, map, codes, Option, Some, None, if◌then◌else◌}
use Rattle.std.specs.Char.{to_ascii_lowercase}
use Rattle.std.specs.Str.{bytes_eq}
use Rattle.site_keys.specs.declared.credentials.Credentials.{Credentials}
use Rattle.site_keys.specs.Bytes.{space, colon, cut, text_in, without_spaces}
use Rattle.site_keys.specs.OptionSteps.{◌>>=◌}

pub record CredentialsState : Type 0 where
  pub user : List ℕ
  pub password : List ℕ

abbrev pub credentials_view : Credentials → CredentialsState
credentials_view credentials = record {
  user = credentials.user.now;
  password = credentials.password.now;
}

-- the token after the scheme `Basic`
abbrev pub token_in : List ℕ → Option (List ℕ)
token_in header = do
  parts ← cut space header
  if bytes_eq (map to_ascii_lowercase parts.0) (codes "basic") then Some (without_spaces parts.1)
      else None

-- the user ends at the first colon
abbrev pub credentials_of : List ℕ → Option CredentialsState
credentials_of bytes = do
  parts ← cut colon bytes
  user ← text_in parts.0
  Some (record { user = user; password = parts.1 })
