-- The laws, by the lemmas along every history.
use Rattle.site_core.proofs.CallOrderLemmas.{points_follow, rows_go_on, begin_at_zero, stay_consecutive, go_on_in_order, sent_as_kept, stay_unless_confirmed}
use Rattle.site_core.proofs.call_laws.histories_go_on_from_any_state.Goals as goal

pub returns-clause-points : goal.returns-clause-points
returns-clause-points c = points_follow

pub returns-clause-rows : goal.returns-clause-rows
returns-clause-rows c = rows_go_on

pub returns-clause-opening : goal.returns-clause-opening
returns-clause-opening c = begin_at_zero

pub returns-clause-consecutive : goal.returns-clause-consecutive
returns-clause-consecutive c = stay_consecutive

pub returns-clause-order : goal.returns-clause-order
returns-clause-order c = go_on_in_order

pub returns-clause-sent : goal.returns-clause-sent
returns-clause-sent c = sent_as_kept

pub returns-clause-calls : goal.returns-clause-calls
returns-clause-calls c = stay_unless_confirmed
