-- The keys of a file, line by line. The clauses of `Keys::read` say the same by `AreKeysOf`.
use Rattle.std.specs.Prelude.{ℕ, ◌≡◌, ◌+◌, List, [], ◌∷◌, ◌++◌, codes, Option, Some, None, Vec, Result, Ok, Err, if◌then◌else◌}
use Rattle.std.specs.Option.{ok_or, option_to_list}
use Rattle.std.specs.Str.{bytes_eq}
use Rattle.std.specs.declared.alloc.Global.{Global}
use Rattle.hex.specs.Hex.{decode_sized}
use Rattle.hex.specs.declared.error.FromHexError.{FromHexError}
use Rattle.site_keys.specs.declared.role.Role.{Role}
use Rattle.site_keys.specs.declared.role.Role.TheVariants.{Point, Operator}
use Rattle.site_keys.specs.declared.line_fault.KeyLineFault.{KeyLineFault}
use Rattle.site_keys.specs.declared.line_fault.KeyLineFault.TheVariants as faults
use Rattle.site_keys.specs.declared.keys_fault.KeysFault.{KeysFault}
use Rattle.site_keys.specs.declared.keys_fault.KeysFault.TheVariants.{Line, OutOfMemory}
use Rattle.site_keys.specs.declared.key_line.Words.{Words}
use Rattle.site_keys.specs.Bytes.{space, cut, without_return}
use Rattle.site_keys.specs.ResultSteps.{◌>>=◌}
use Rattle.site_keys.specs.Limits.{salt_size, digest_size}
use Rattle.site_keys.specs.Key.{KeyState}
use Rattle.site_keys.specs.KeyFile.{is_name, is_left_out, lines_of}

-- ---- the words of a line

abbrev pub role_named : List ℕ → Result Role KeyLineFault
role_named word =
    if bytes_eq word (codes "point") then Ok Point
    else if bytes_eq word (codes "operator") then Ok Operator
    else Err faults.Role

abbrev pub name_in : List ℕ → Result (List ℕ) KeyLineFault
name_in name = if is_name name then Ok name else Err faults.Name

abbrev pub bytes_or : KeyLineFault → Result (List ℕ) FromHexError → Result (List ℕ) KeyLineFault
bytes_or fault (Ok bytes) = Ok bytes
bytes_or fault (Err error) = Err fault

abbrev pub salt_in : List ℕ → Result (List ℕ) KeyLineFault
salt_in digits = bytes_or faults.Salt (decode_sized digits salt_size)

abbrev pub digest_in : List ℕ → Result (List ℕ) KeyLineFault
digest_in digits = bytes_or faults.Digest (decode_sized digits digest_size)

-- the first three words of a line, and the rest after them
pub record KeyWords : Type 0 where
  pub role : List ℕ
  pub user : List ℕ
  pub salt : List ℕ
  pub digest : List ℕ

abbrev pub words_view : Words → KeyWords
words_view words = record {
  role = words.role.now;
  user = words.user.now;
  salt = words.salt.now;
  digest = words.digest.now;
}

abbrev pub word_at : List ℕ → Result (List ℕ × List ℕ) KeyLineFault
word_at text = ok_or (cut space text) faults.Words

abbrev pub words_of : List ℕ → Result KeyWords KeyLineFault
words_of line = do
  role ← word_at line
  user ← word_at role.1
  salt ← word_at user.1
  Ok (record { role = role.0; user = user.0; salt = salt.0; digest = salt.1 })

-- ---- a line

abbrev pub key_of_words : KeyWords → Result KeyState KeyLineFault
key_of_words words = do
  role ← role_named words.role
  user ← name_in words.user
  salt ← salt_in words.salt
  digest ← digest_in words.digest
  Ok (record { role = role; user = user; salt = salt; digest = digest })

unfoldable pub key_in : List ℕ → Result KeyState KeyLineFault
key_in line = do
  words ← words_of line
  key_of_words words

-- the key of a line, unless that is empty or a comment
abbrev pub line_in : List ℕ → Result (Option KeyState) KeyLineFault
line_in line =
    if is_left_out line then Ok None
    else key_in line >>= λ (key : KeyState). Ok (Some key)

-- ---- the file

-- a fault, with the number of its line
abbrev pub at_line : {A : Type 0} → ℕ → Result A KeyLineFault → Result A KeysFault
at_line number (Ok value) = Ok value
at_line number (Err fault) = Err (Line number fault)

abbrev pub numbered_line : ℕ → List ℕ → Result (Option KeyState) KeysFault
numbered_line number line = at_line number (line_in (without_return line))

-- the keys of lines, or the first fault; the first line has this number
abbrev pub keys_from : ℕ → List (List ℕ) → Result (List KeyState) KeysFault
keys_from number [] = Ok []
keys_from number (line ∷ lines) = do
  key ← numbered_line number line
  keys ← keys_from (number + 1) lines
  Ok (option_to_list key ++ keys)

unfoldable pub keys_in : List ℕ → Result (List KeyState) KeysFault
keys_in bytes = keys_from 1 (lines_of bytes)

-- a line's key is added, if it has one
abbrev pub Adds : Result Unit KeysFault → List KeyState → List KeyState
    → Result (Option KeyState) KeysFault → Type 0
Adds (Ok done) old new said =
    (key : Option KeyState) × (said ≡ Ok key) × (new ≡ old ++ option_to_list key)
Adds (Err OutOfMemory) old new said = Unit {0}
Adds (Err (Line number fault)) old new said = said ≡ Err (Line number fault)

abbrev pub items_of : Result (Vec KeyState Global) KeysFault → Result (List KeyState) KeysFault
items_of (Ok keys) = Ok keys.items
items_of (Err fault) = Err fault
