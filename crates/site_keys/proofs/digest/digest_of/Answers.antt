-- The hex digits of a key encode it; any other password has its own bytes.
use Rattle.std.proofs.Common.{List, ℕ, ◌++◌, ap, ◌∙◌}
use Rattle.sha2.specs.Sha256.{sha256}
use Rattle.site_keys.specs.Key.{key_bytes}
use Rattle.site_keys.proofs.digest.digest_of.Goals as goal

pub returns-in-Ok : goal.returns-in-Ok
unfolding key_bytes
returns-in-Ok c = rw (← c.from_hex.ensures, c.in-Ok.is)
    (c.salted_digest.ensures ∙ ap (λ (key : List ℕ). sha256 (c.args.salt.now ++ key)) c.as_slice.ensures)

pub returns-in-Err : goal.returns-in-Err
unfolding key_bytes
returns-in-Err c = rw (← c.from_hex.ensures, c.in-Err.is) c.salted_digest-in-Err.ensures
