-- The copied body and the first number are the first call.
use Rattle.std.proofs.Common.{ℕ, ◌-◌, ◌<◌, ◌≡◌, length, sym, ◌∙◌, ap, refl, true, false, not, is_some, slice_index_or}
use Rattle.messages.specs.declared.call.CallBody.{CallBody}
use Rattle.site_core.specs.Outbox.{OutboxState, sendable}
use Rattle.site_core.proofs.OutboxLemmas.{numbered_length, sendable_is}
use Rattle.site_core.proofs.outbox.Outbox.send.Goals as goal

pub returns-clause-call : goal.returns-clause-call
returns-clause-call c =
    let i = c.self.inside in
    let first : c.first_number-number.result ≡ i.next - length i.bodies =
    c.first_number-number.ensures.value ∙ sym (ap (λ (o : OutboxState). o.next - length o.calls) c.self.view_is)
    ∙ ap (λ (n : ℕ). i.next - n) (numbered_length (i.next - length i.bodies) i.bodies) in
    let linked : is_some i.link ≡ true = c.is_none.ensures ∙ ap not c.if-is_none.false in
    let waits : i.is_in_flight ≡ false = c.if-self.false in
    let some : 0 < length i.bodies = c.in-Some.ensures.variant.0 refl in
    let body : c.in_ok-body.body ≡ slice_index_or i.bodies 0 c.in_ok-body.body =
    c.in_ok-body.ensures ∙ c.in-Some.ensures.lookup
    ∙ ap (λ (d : CallBody). slice_index_or i.bodies 0 d) (sym (c.in_ok-body.ensures)) in
    sendable_is i.link i.bodies i.next c.first_number-number.result i.is_in_flight c.in_ok-body.body linked waits first some body
    ∙ ap (λ (o : OutboxState). sendable o) c.self.view_is
