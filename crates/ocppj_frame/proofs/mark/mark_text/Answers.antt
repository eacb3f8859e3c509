-- The marked text of a text in UTF-8 is UTF-8.
use Rattle.std.proofs.Common.{◌∙◌, sym, subst}
use Rattle.std.specs.Str.{IsUtf8}
use Rattle.ocppj_frame.proofs.MarkedText.{IsUtf8-marked_text}
use Rattle.ocppj_frame.proofs.mark.mark_text.Goals as goal

pub from_utf8_unchecked-requires : goal.from_utf8_unchecked-requires
from_utf8_unchecked-requires c =
    let marked = c.as_slice.ensures.value ∙ c.in_ok-mark_bytes.ensures in
    subst IsUtf8 (sym marked) (IsUtf8-marked_text _ (subst IsUtf8 (sym c.as_bytes.ensures.value) c.utf8.text))
