-- The laws, by induction on the history.
use Rattle.site_core.proofs.CallOrderLemmas.{outboxes_follow, sent_by_history, sent_as_made, left_of_history, confirmed_by_history}
use Rattle.site_core.proofs.call_laws.histories_send_calls_in_order.Goals as goal

pub returns-clause-outbox : goal.returns-clause-outbox
returns-clause-outbox c = outboxes_follow

pub returns-clause-order : goal.returns-clause-order
returns-clause-order c = sent_by_history

pub returns-clause-sent : goal.returns-clause-sent
returns-clause-sent c = sent_as_made

pub returns-clause-calls : goal.returns-clause-calls
returns-clause-calls c = left_of_history

pub returns-clause-confirmed : goal.returns-clause-confirmed
returns-clause-confirmed c = confirmed_by_history
