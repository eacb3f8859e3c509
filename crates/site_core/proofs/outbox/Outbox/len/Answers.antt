-- There are as many calls as bodies; the invariant of an outbox.
use Rattle.std.proofs.Common.{length, sym, ◌∙◌, ap, subst}
use Rattle.site_core.specs.Outbox.{OutboxState, IsOutbox}
use Rattle.site_core.proofs.OutboxLemmas.{numbered_length, outbox_is}
use Rattle.site_core.proofs.outbox.Outbox.len.Goals as goal

pub returns-clause-value : goal.returns-clause-value
returns-clause-value c =
    c.len.ensures.value ∙ sym (numbered_length _ c.self.inside.bodies)
    ∙ ap (λ (o : OutboxState). length o.calls) c.self.view_is

pub returns-clause-outbox : goal.returns-clause-outbox
returns-clause-outbox c =
    let i = c.self.invariant in
    subst IsOutbox c.self.view_is (outbox_is c.self.inside.link c.self.inside.bodies c.self.inside.next c.self.inside.is_in_flight i.0 i.1 i.2 i.3)
