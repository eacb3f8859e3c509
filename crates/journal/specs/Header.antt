-- The first line of a journal: its format, and the digest of the site file with which it was begun.
use Rattle.std.specs.Prelude.{ℕ, ◌≡◌, List, ◌++◌, codes, length}
use Rattle.hex.specs.Hex.{IsBytes, encode_lower}
use Rattle.journal.specs.declared.header.Format.{Format}
use Rattle.journal.specs.declared.header.Format.TheVariants.{First, Second}

-- a SHA-256 (FIPS 180-4)
pub record IsDigest (digest : List ℕ) : Type 0 where
  pub size : length digest ≡ 32
  pub bytes : IsBytes digest

abbrev pub beginning : Format → List ℕ
beginning First = codes "central journal 1 sha256:"
beginning Second = codes "central journal 2 sha256:"

-- the beginning of a format, and the SHA-256 in lower case hex digits
unfoldable pub header_words : Format → List ℕ → List ℕ
header_words format digest = beginning format ++ encode_lower digest

-- the line of the present format, with its line feed
abbrev pub header_text : List ℕ → List ℕ
header_text digest = header_words Second digest ++ codes "\n"
