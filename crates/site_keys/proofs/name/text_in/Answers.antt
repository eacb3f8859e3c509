-- Bytes are a text exactly if they are UTF-8.
use Rattle.std.proofs.Common.{◌≡◌, true, false, Some, refl, ap, ◌∙◌}
use Rattle.std.specs.Str.{is_utf8}
use Rattle.std.proofs.lemmas.Str.{IsUtf8-from_is_utf8, is_utf8-from_IsUtf8}
use Rattle.site_keys.proofs.name.text_in.Goals as goal

pub returns-in-Ok : goal.returns-in-Ok
returns-in-Ok c =
    let cases = c.in-Ok.ensures.cases in
    let text = is_utf8-from_IsUtf8 c.args.bytes.now cases.1 in
    ap Some cases.0 ∙ rw text refl

pub returns-in-Err : goal.returns-in-Err
returns-in-Err c =
    let none : is_utf8 c.args.bytes.now ≡ false =
    elim (is_utf8 c.args.bytes.now) as (λ t. is_utf8 c.args.bytes.now ≡ t → t ≡ false) [
      | true ↦ λ is. absurd (c.in-Err.ensures.cases.0 (IsUtf8-from_is_utf8 c.args.bytes.now is))
      | false ↦ λ is. refl
    ] refl in
    rw none refl
