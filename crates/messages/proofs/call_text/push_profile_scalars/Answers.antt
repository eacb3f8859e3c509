-- Added for the prover: the texts of the optional values.
use Rattle.messages.proofs.call_text.push_profile_scalars.Goals as goal

pub returns : goal.returns
returns c =
    let numbers = rw (c.profile_id.ensures, c.signed.ensures) at c.push_fields.ensures in
    rw (c.recurrency.ensures, c.time.ensures, c.time-2.ensures) at numbers
