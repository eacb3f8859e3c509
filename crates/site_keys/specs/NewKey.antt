-- New keys, and the headers that they admit.
use Rattle.std.specs.Prelude.{ℕ, ◌≡◌, List, [], ◌∷◌, ◌++◌, length, codes, Option, IsTrue, ◌⊎◌}
use Rattle.hex.specs.Hex.{IsBytes, encode_lower}
use Rattle.sha2.specs.Sha256.{sha256}
use Rattle.site_keys.specs.declared.role.Role.{Role}
use Rattle.site_keys.specs.Limits.{key_size, salt_size}
use Rattle.site_keys.specs.Key.{KeyState}
use Rattle.site_keys.specs.KeyFile.{role_word, is_name}
use Rattle.site_keys.specs.Admission.{IsAdmitted}
use Rattle.site_keys.specs.Credentials.{IsBasic, base64_text}

-- the key of a user with these key bytes
abbrev pub new_key : Role → List ℕ → List ℕ → List ℕ → KeyState
new_key role name salt key = record {
  role = role;
  user = name;
  salt = salt;
  digest = sha256 (salt ++ key);
}

-- its line, with hex digits in lower case
abbrev pub key_line : KeyState → List ℕ
key_line key =
    role_word key.role ++ codes " " ++ key.user ++ codes " " ++ encode_lower key.salt ++ codes " "
    ++ encode_lower key.digest

-- a name, and a salt and a key of their sizes
pub record CanBeWritten (name salt key : List ℕ) : Type 0 where
  pub is_user : IsTrue (is_name name)
  pub has_salt_size : length salt ≡ salt_size
  pub salt_bytes : IsBytes salt
  pub has_key_size : length key ≡ key_size
  pub key_bytes : IsBytes key

-- the user sends the key, as hex digits or as bytes
abbrev pub SendsKey : List ℕ → List ℕ → List ℕ → Type 0
SendsKey header name key = IsBasic header name (encode_lower key) ⊎ IsBasic header name key

-- with this key alone, each admitted client has its role and its name
abbrev pub OpensAlone : Role → List ℕ → List ℕ → List ℕ → Type 0
OpensAlone role name salt key =
    (other : Role) (identity : List ℕ) (header : Option (List ℕ)) (user : List ℕ)
    → IsAdmitted (new_key role name salt key ∷ []) other identity header user
    → (role ≡ other) × (name ≡ user)

-- a name, and a password of any bytes
pub record CanBeSent (name password : List ℕ) : Type 0 where
  pub is_user : IsTrue (is_name name)
  pub name_bytes : IsBytes name
  pub password_bytes : IsBytes password

-- the header with one space after `Basic`, as most senders write it
abbrev pub basic_header : List ℕ → List ℕ → List ℕ
basic_header user password = codes "Basic " ++ base64_text (user ++ codes ":" ++ password)
