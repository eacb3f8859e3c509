-- The call joins the others with the next number, and the invariant stays.
use Rattle.std.proofs.Common.{◌+◌, ◌-◌, ◌<◌, ◌≤◌, ◌≡◌, length, ◌∙◌, ap, arith, length-append, List}
use Rattle.messages.specs.declared.call.Call.{Call}
use Rattle.messages.specs.declared.call.CallBody.{CallBody}
use Rattle.site_core.specs.Outbox.{OutboxState, added, numbered}
use Rattle.site_core.proofs.OutboxLemmas.{numbered_length, numbered_join}
use Rattle.site_core.proofs.outbox.Outbox.add.Goals as goal

pub append-requires : goal.append-requires
append-requires c =
    let one : length c.call.inside.bodies ≡ 1 = c.call.invariant in
    let calls : length (numbered (c.self.inside.next - length c.self.inside.bodies) c.self.inside.bodies) ≡ length c.args.self.now.calls =
    ap (λ (o : OutboxState). length o.calls) c.self.view_is in
    let bodies = numbered_length (c.self.inside.next - length c.self.inside.bodies) c.self.inside.bodies in
    let room : length c.args.self.now.calls < 256 = c.requires.room in
    omega arith

pub invariant_of-self : goal.invariant_of-self
invariant_of-self c =
    let one : length c.call.inside.bodies ≡ 1 = c.call.invariant in
    let drawn : length c.self.inside.bodies ≤ c.self.inside.next = c.self.invariant.0 in
    let many : length c.append.new.self ≡ length c.self.inside.bodies + length c.call.inside.bodies =
    ap (λ (bodies : List CallBody). length bodies) c.append.ensures ∙ length-append c.self.inside.bodies c.call.inside.bodies in
    let calls : length (numbered (c.self.inside.next - length c.self.inside.bodies) c.self.inside.bodies) ≡ length c.args.self.now.calls =
    ap (λ (o : OutboxState). length o.calls) c.self.view_is in
    let next : c.self.inside.next ≡ c.args.self.now.next = ap (λ (o : OutboxState). o.next) c.self.view_is in
    let bodies = numbered_length (c.self.inside.next - length c.self.inside.bodies) c.self.inside.bodies in
    let room : length c.args.self.now.calls < 256 = c.requires.room in
    let number : c.args.self.now.next ≤ 1000000000000 = c.requires.number in
    (omega arith, omega arith, omega arith, λ is. ((c.self.invariant.3 is).0, omega arith))

pub returns : goal.returns
returns c =
    ap (λ (bodies : List CallBody). record {
      link = c.self.inside.link;
      calls = numbered ((c.self.inside.next + 1) - length bodies) bodies;
      next = c.self.inside.next + 1;
      is_in_flight = c.self.inside.is_in_flight;
    }) c.append.ensures
    ∙ ap (λ (calls : List Call). record {
      link = c.self.inside.link;
      calls = calls;
      next = c.self.inside.next + 1;
      is_in_flight = c.self.inside.is_in_flight;
    }) (numbered_join c.self.inside.next c.self.inside.bodies c.call.inside.bodies c.call.invariant c.self.invariant.0)
    ∙ ap (λ (call : CallBody). added (record {
      link = c.self.inside.link;
      calls = numbered (c.self.inside.next - length c.self.inside.bodies) c.self.inside.bodies;
      next = c.self.inside.next;
      is_in_flight = c.self.inside.is_in_flight;
    }) call) c.call.view_is
    ∙ ap (λ (o : OutboxState). added o c.args.call) c.self.view_is
