-- The law, by the outbox at the point's place.
use Rattle.site_core.proofs.SendLemmas.{link_to_send_present, sends_nothing}
use Rattle.site_core.proofs.call_laws.skipped_sends_send_nothing.Goals as goal

pub returns-clause-present : goal.returns-clause-present
returns-clause-present c = link_to_send_present

pub returns-clause-nothing : goal.returns-clause-nothing
returns-clause-nothing c = sends_nothing
