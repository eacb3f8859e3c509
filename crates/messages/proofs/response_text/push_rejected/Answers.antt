-- Added for the prover: the refusal isn't out of memory.
use Rattle.std.proofs.Common.{arith}
use Rattle.std.proofs.lemmas.Grind.{common_steps}
use Rattle.messages.proofs.response_text.push_rejected.Goals as goal

pub returns : goal.returns
returns c = rw (← c.if-is_out_of_memory.ensures) (grind (arith, common_steps))
