-- The rest of a UTF-8 text after an ASCII byte is UTF-8.
use Rattle.std.proofs.Common.{◌≡◌, ◌<◌, ◌∷◌, ◌∙◌, sym, subst}
use Rattle.std.specs.Str.{IsUtf8}
use Rattle.ocppj_frame.proofs.AfterMark.{IsUtf8-past_ascii}
use Rattle.ocppj_frame.proofs.mark.after_mark.Goals as goal

pub from_utf8_unchecked-requires : goal.from_utf8_unchecked-requires
from_utf8_unchecked-requires c =
    let whole : c.args.text.now ≡ c.in_ok-first.first.now ∷ c.in_ok-first.others.now = sym c.as_bytes.ensures.value ∙ c.in_ok-first.ensures.cases.0 in
    let low : c.in_ok-first.first.now < 128 = rw c.if-first-mark.true c.requires in
    IsUtf8-past_ascii _ _ low (subst IsUtf8 whole c.utf8.text)
