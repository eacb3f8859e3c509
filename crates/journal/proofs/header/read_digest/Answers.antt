-- The digits of a digest are read, and written again.
use Rattle.std.proofs.Common.{◌≡◌, List, ℕ, sym, ap, ◌∙◌}
use Rattle.std.proofs.lemmas.Slice.Eq.{bytes_eq-Decides}
use Rattle.hex.specs.Hex.{encode_lower, decode_sized}
use Rattle.hex.proofs.HexLemmas.{decode_sized-encode_lower}
use Rattle.journal.proofs.header.read_digest.Goals as goal

pub returns-in_default-clause-none : goal.returns-in_default-clause-none
returns-in_default-clause-none c digest is same =
    c.in_default.not-Ok digest (c.from_hex.ensures ∙ ap (λ (t : List ℕ). decode_sized t 32) (sym same)
    ∙ decode_sized-encode_lower digest 32 is.size is.bytes)

pub returns-else-eq-clause-none : goal.returns-else-eq-clause-none
returns-else-eq-clause-none c digest is same =
    let read = c.from_hex.ensures ∙ ap (λ (t : List ℕ). decode_sized t 32) (sym same)
    ∙ decode_sized-encode_lower digest 32 is.size is.bytes in
    let one : c.in-Ok.digest ≡ digest = cc (c.in-Ok.is, read) in
    let again = c.as_slice.ensures ∙ c.in-Ok-encode_to_slice.ensures.written ∙ ap encode_lower one ∙ same
    ∙ sym c.as_bytes.ensures.value in
    absurd (cc (c.if-eq.ensures, (bytes_eq-Decides c.as_slice.result.now c.as_bytes.result.now).1 again))
