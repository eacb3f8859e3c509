-- The laws, by induction on the traffic.
use Rattle.site_core.proofs.OutboxOrderLemmas.{sent_in_order, left_unless_confirmed}
use Rattle.site_core.proofs.outbox_laws.calls_are_sent_in_order.Goals as goal

pub returns-clause-order : goal.returns-clause-order
returns-clause-order c = sent_in_order

pub returns-clause-calls : goal.returns-clause-calls
returns-clause-calls c = left_unless_confirmed
