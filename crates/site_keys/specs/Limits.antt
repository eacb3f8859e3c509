-- Sizes, in bytes.
use Rattle.std.specs.Prelude.{ℕ}

-- of an AuthorizationKey (OCPP-J 1.6, 6.2)
abbrev pub key_size : ℕ
key_size = 20

-- our own
abbrev pub salt_size : ℕ
salt_size = 16

-- of a SHA-256 (FIPS 180-4, 1)
abbrev pub digest_size : ℕ
digest_size = 32
