-- Added for the prover: the text of the optional value.
use Rattle.messages.specs.CallText.{period_text}
use Rattle.messages.proofs.call_text.push_period.Goals as goal

pub returns : goal.returns
unfolding period_text
returns c =
    let object = rw (c.whole.ensures) at c.in_ok-push_object.ensures in
    search object
