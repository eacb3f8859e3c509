-- A point's own events lead from its opening state to its present one.
use Rattle.held_law.proofs.HeldLemmas.{machines_know}
use Rattle.held_law.proofs.machines_know_what_is_held.Goals as goal

pub returns : goal.returns
returns c = machines_know c.histories_go_on_from_any_state.ensures.points
