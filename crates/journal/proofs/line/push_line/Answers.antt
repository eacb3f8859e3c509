-- The pieces make the line.
use Rattle.std.proofs.Common.{◌++◌, string_bytes, subst, ap, ◌∙◌}
use Rattle.ocpp_scalars.specs.Appending.{Appends}
use Rattle.journal.specs.Line.{LineState, number_written}
use Rattle.journal.specs.Entry.{before_number, behind_number, drawn_text}
use Rattle.journal.proofs.LinePieces.{then_piece, then_last, put_together}
use Rattle.journal.proofs.line.push_line.Goals as goal

pub returns : goal.returns
returns c =
    let start = string_bytes c.args.text.now in
    let line : LineState = c.args.line.now in
    let first = string_bytes c.push_before_number.new.text in
    let second = string_bytes c.push_drawn.new.text in
    let drawn = drawn_text (number_written line.noted) in
    let number = c.number.ensures ∙ ap (λ (l : LineState). number_written l.noted) c.line.view_is in
    let two = then_piece start first second (before_number line) drawn c.in_ok-push_before_number.ensures
    (c.in_ok-push_drawn.ensures ∙ ap (λ n. first ++ drawn_text n) number) in
    subst (Appends c.push_behind_number.result start (string_bytes c.push_behind_number.new.text)) (put_together line)
    (then_last c.push_behind_number.result start second (string_bytes c.push_behind_number.new.text)
    (before_number line ++ drawn) (behind_number line) two c.push_behind_number.ensures)
