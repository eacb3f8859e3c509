-- The calls are these bodies, numbered from the first call's number on.
use Rattle.std.proofs.Common.{◌≡◌, ℕ, ◌-◌, length, ap, ◌∙◌, arith}
use Rattle.site_core.specs.Outbox.{OutboxState, numbered}
use Rattle.site_core.proofs.OutboxLemmas.{numbered_length}
use Rattle.site_core.proofs.outbox.Outbox.bodies.Goals as goal

pub returns : goal.returns
returns c =
    let first = c.self.inside.next - length c.self.inside.bodies in
    let calls : numbered first c.self.inside.bodies ≡ c.args.self.now.calls =
    ap (λ (o : OutboxState). o.calls) c.self.view_is in
    let next : c.self.inside.next ≡ c.args.self.now.next = ap (λ (o : OutboxState). o.next) c.self.view_is in
    let many : length (numbered first c.self.inside.bodies) ≡ length c.args.self.now.calls = ap length calls in
    let bodies = numbered_length first c.self.inside.bodies in
    let number : c.args.self.now.next - length c.args.self.now.calls ≡ first = omega arith in
    ap (λ (n : ℕ). numbered n c.in_ok-bodies.bodies.items) number
    ∙ ap (numbered first) c.in_ok-bodies.ensures
    ∙ calls
