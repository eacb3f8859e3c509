-- Synced bytes are there from then on.
use Rattle.append_log.specs.Log.{contents, history}
use Rattle.journal.proofs.SyncLemmas.{receipt_so, synced_so}
use Rattle.journal.proofs.written_steps.WrittenSteps.write_and_sync.Goals as goal

pub invariant_of-self-2 : goal.invariant_of-self-2
invariant_of-self-2 g c =
    synced_so (contents c.self.inside.accounted.log) (contents c.write_and_sync.new.self)
    (history c.self.inside.accounted.log) (history c.write_and_sync.new.self)
    c.self.inside.accounted.states c.self.inside.taken c.self.inside.syncs.entries
    c.add_from.new.self.entries c.self.invariant c.in_ok-write_and_sync.ensures.acknowledged
    c.add_from.ensures

pub returns-clause-synced : goal.returns-clause-synced
returns-clause-synced g c =
    receipt_so (contents c.self.inside.accounted.log) (contents c.write_and_sync.new.self)
    c.self.inside.accounted.states c.copy.result c.self.inside.syncs.entries
    c.add_from.new.self.entries c.front.result.entries c.new.result
    c.in_ok-write_and_sync.ensures.acknowledged c.add_from.ensures c.copy.ensures c.front.ensures
    c.new.ensures
