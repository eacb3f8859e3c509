-- The law, by induction on the calls that are obeyed.
use Rattle.site_core.proofs.ObeyLemmas.{stays_in_step}
use Rattle.site_core.proofs.obey_laws.obeying_point_stays_in_step.Goals as goal

pub returns : goal.returns
returns c = stays_in_step
