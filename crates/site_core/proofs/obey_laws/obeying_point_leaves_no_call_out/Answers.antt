-- The law, by induction on the sendings.
use Rattle.site_core.proofs.ObeyOrderLemmas.{obeyed_in_order}
use Rattle.site_core.proofs.obey_laws.obeying_point_leaves_no_call_out.Goals as goal

pub returns : goal.returns
returns c = obeyed_in_order
