-- The laws, by the lemmas along every history.
use Rattle.site_core.proofs.CallOrderLemmas.{rows_follow, stay_in_step, obey_in_order, obeying_stay_in_step, moments}
use Rattle.site_core.proofs.call_laws.histories_keep_points_in_step.Goals as goal

pub returns-clause-rows : goal.returns-clause-rows
returns-clause-rows c = rows_follow

pub returns-clause-lasting : goal.returns-clause-lasting
returns-clause-lasting c = stay_in_step

pub returns-clause-obeying : goal.returns-clause-obeying
returns-clause-obeying c = obeying_stay_in_step

pub returns-clause-moments : goal.returns-clause-moments
returns-clause-moments c = moments

pub returns-clause-obeyed : goal.returns-clause-obeyed
returns-clause-obeyed c = obey_in_order
