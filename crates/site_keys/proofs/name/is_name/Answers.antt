-- The bytes of a text that isn't empty decide.
use Rattle.std.proofs.Common.{◌<◌, length, arith}
use Rattle.std.proofs.lemmas.Bool.{lt-ltb}
use Rattle.std.proofs.lemmas.Str.{is_utf8-from_IsUtf8}
use Rattle.site_keys.specs.KeyFile.{is_name}
use Rattle.site_keys.proofs.name.is_name.Goals as goal

pub returns-then-not-is_empty : goal.returns-then-not-is_empty
unfolding is_name
returns-then-not-is_empty c =
    let name = c.args.name.now in
    let text = is_utf8-from_IsUtf8 name c.utf8.name in
    let some : 0 < length name =
    grind (arith, c.is_empty.ensures, c.if-not-is_empty.true) in
    rw (text, lt-ltb 0 (length name) some, ← c.as_bytes.ensures.value) c.has_name_bytes.ensures
