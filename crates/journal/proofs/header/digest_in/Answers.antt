-- A text that begins otherwise isn't a first line.
use Rattle.std.proofs.Common.{List, ℕ, ◌++◌, ap, ◌∙◌}
use Rattle.hex.specs.Hex.{encode_lower}
use Rattle.journal.specs.Header.{header_words}
use Rattle.journal.proofs.header.digest_in.Goals as goal

pub returns-in_default-clause-none : goal.returns-in_default-clause-none
unfolding header_words
returns-in_default-clause-none c digest is same =
    c.in_default.ensures.none (encode_lower digest)
    (ap (λ (t : List ℕ). t ++ encode_lower digest) c.beginning.ensures ∙ same)
