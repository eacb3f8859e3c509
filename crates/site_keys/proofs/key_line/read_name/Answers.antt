-- Bytes that aren't a text aren't a name.
use Rattle.std.proofs.Common.{refl, sym}
use Rattle.site_keys.proofs.NameLemmas.{name_is_text}
use Rattle.site_keys.proofs.key_line.read_name.Goals as goal

pub returns-in_default : goal.returns-in_default
returns-in_default c = rw (name_is_text c.args.bytes.now (sym c.in_default.ensures)) refl
