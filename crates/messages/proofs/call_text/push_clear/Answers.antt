-- Added for the prover: the texts of the optional values.
use Rattle.messages.proofs.call_text.push_clear.Goals as goal

pub returns : goal.returns
returns c =
    let fields =
    rw (c.signed.ensures, c.whole.ensures, c.purpose.ensures, c.whole-2.ensures)
    at c.push_fields.ensures in
    search fields
