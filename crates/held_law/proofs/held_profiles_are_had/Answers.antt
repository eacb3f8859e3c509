-- The law, by induction on the moves.
use Rattle.held_law.proofs.HeldLemmas.{held_profiles_are_had}
use Rattle.held_law.proofs.held_profiles_are_had.Goals as goal

pub returns : goal.returns
returns c = held_profiles_are_had
