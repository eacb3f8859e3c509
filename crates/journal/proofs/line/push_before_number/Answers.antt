-- One word after another.
use Rattle.std.proofs.Common.{ℕ, List, ◌++◌, codes, string_bytes, ap, sym, ◌∙◌, lit<}
use Rattle.ocpp_scalars.specs.Writing.{instant_text}
use Rattle.journal.specs.Line.{noted_state, word_of}
use Rattle.journal.specs.Entry.{noted_before}
use Rattle.journal.proofs.LinePieces.{then_piece, then_last}
use Rattle.journal.proofs.line.push_before_number.Goals as goal

pub returns : goal.returns
returns c =
    let start = string_bytes c.args.text.now in
    let line = c.line.inside in
    let instant = instant_text line.moment in
    let word = word_of (noted_state line.noted) in
    let first = string_bytes c.push_instant.new.out in
    let second = string_bytes c.push.new.self in
    let third = string_bytes c.push_word.new.text in
    let fourth = string_bytes c.push-2.new.self in
    let fifth = string_bytes c.push_str.new.self in
    let sixth = string_bytes c.push-3.new.self in
    let one = then_piece start first second instant (codes " ") c.in_ok-push_instant.ensures
    (c.in_ok-push.ensures.bytes ∙ ap (λ (t : List ℕ). first ++ t) (c.in_ok-push.ensures.ascii (lit< tt))) in
    let two = then_piece start second third (instant ++ codes " ") word one
    c.in_ok-push_word.ensures in
    let three = then_piece start third fourth (instant ++ codes " " ++ word) (codes " ") two
    (c.in_ok-push-2.ensures.bytes ∙ ap (λ (t : List ℕ). third ++ t) (c.in_ok-push-2.ensures.ascii (lit< tt))) in
    let four = then_piece start fourth fifth (instant ++ codes " " ++ word ++ codes " ") line.point.now three
    c.in_ok-push_str.ensures.bytes in
    let five = then_piece start fifth sixth (instant ++ codes " " ++ word ++ codes " " ++ line.point.now) (codes " ") four
    (c.in_ok-push-3.ensures.bytes ∙ ap (λ (t : List ℕ). fifth ++ t) (c.in_ok-push-3.ensures.ascii (lit< tt))) in
    rw (sym c.line.view_is) (then_last c.push_noted_before.result start sixth (string_bytes c.push_noted_before.new.text)
    (instant ++ codes " " ++ word ++ codes " " ++ line.point.now ++ codes " ") (noted_before (noted_state line.noted)) five c.push_noted_before.ensures)
