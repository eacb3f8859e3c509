-- One piece after another.
use Rattle.std.proofs.Common.{ℕ, List, ◌++◌, codes, string_bytes, ap, ◌∙◌, lit<}
use Rattle.hex.specs.Hex.{encode_lower}
use Rattle.journal.proofs.LinePieces.{then_piece}
use Rattle.journal.specs.Header.{header_words}
use Rattle.journal.proofs.header.push_header.Goals as goal

pub returns : goal.returns
unfolding header_words
returns c =
    let start = string_bytes c.args.text.now in
    let first = string_bytes c.push_str.new.self in
    let second = string_bytes c.push_str-2.new.self in
    let digits = encode_lower c.args.digest.now in
    let two = then_piece start first second (codes "central journal 2 sha256:") digits
    (c.in_ok-push_str.ensures.bytes ∙ ap (λ (t : List ℕ). start ++ t) c.beginning.ensures)
    (c.in_ok-push_str-2.ensures.bytes ∙ ap (λ (t : List ℕ). first ++ t) (c.as_str.ensures.value ∙ c.in_ok-digits.ensures ∙ ap encode_lower c.as_slice.ensures)) in
    then_piece start second (string_bytes c.push.new.self) (codes "central journal 2 sha256:" ++ digits) (codes "\n") two
    (c.in_ok-push.ensures.bytes ∙ ap (λ (t : List ℕ). second ++ t) (c.in_ok-push.ensures.ascii (lit< tt)))
