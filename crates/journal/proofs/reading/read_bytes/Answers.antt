-- Only UTF-8 is read.
use Rattle.std.proofs.Common.{◌≡◌, true, false, refl, ap, ◌∙◌}
use Rattle.std.specs.Str.{is_utf8}
use Rattle.std.proofs.lemmas.Str.{IsUtf8-from_is_utf8, is_utf8-from_IsUtf8}
use Rattle.journal.specs.ByCases.Line.{line_of}
use Rattle.journal.proofs.reading.read_bytes.Goals as goal

pub returns-in-Ok : goal.returns-in-Ok
returns-in-Ok c =
    let cases = c.in-Ok.ensures.cases in
    let text = is_utf8-from_IsUtf8 c.args.line.now cases.1 in
    c.read_line.ensures ∙ ap line_of cases.0 ∙ rw text refl

pub returns-in-Err : goal.returns-in-Err
returns-in-Err c =
    let none : is_utf8 c.args.line.now ≡ false =
    elim (is_utf8 c.args.line.now) as (λ t. is_utf8 c.args.line.now ≡ t → t ≡ false) [
      | true ↦ λ is. absurd (c.in-Err.ensures.cases.0 (IsUtf8-from_is_utf8 c.args.line.now is))
      | false ↦ λ is. refl
    ] refl in
    rw none refl
