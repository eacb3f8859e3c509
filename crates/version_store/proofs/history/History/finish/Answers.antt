-- Stopping the central system leaves the room for its event.
use Rattle.std.proofs.Common.{◌≡◌, sym, subst, arith}
use Rattle.std.proofs.lemmas.List.{length_push}
use Rattle.site_core.specs.declared.step.Step.TheVariants.{Finish}
use Rattle.site_core.specs.declared.reply.Reply.TheVariants.{Finished}
use Rattle.version_store.specs.contracts.history.History.{the_view}
use Rattle.version_store.specs.Store.{StoreState, IsStore, HasRoom, with_event}
use Rattle.version_store.specs.Calls.{event_alone}
use Rattle.version_store.proofs.HistoryLemmas.{made_with, nothing_more, store_goes_on}
use Rattle.version_store.proofs.RequestLemmas.{room_finished, finished_made}
use Rattle.version_store.proofs.history.History.finish.Goals as goal

pub push_reserved-requires : goal.push_reserved-requires
push_reserved-requires c =
    let room = room_finished c.self.inside.present c.in-Ok._finished c.step.new.self
    (sym c.if-is_stopped.ensures) c.in-Ok.ensures.made in
    omega (arith, room, c.self.invariant.1, c.self.invariant.2, c.self.inside.events.ok)

abbrev new : (c : goal.Joined-finished) → StoreState
new c = the_view (record c.self.inside {
  events = c.push_reserved.new.self;
  present = c.step.new.self;
})

abbrev then : (c : goal.Joined-finished) → StoreState
then c = with_event (the_view c.self.inside) (event_alone Finish)
    (made_with Finished c.step.new.self)

pub invariant_of-self : goal.invariant_of-self
invariant_of-self c =
    let made = finished_made c.self.inside.present c.in-Ok._finished c.step.new.self
    c.in-Ok.ensures.made in
    let is = store_goes_on c.machine_laws.ensures _ c.self.invariant.0 (event_alone Finish)
    Finished c.step.new.self made (λ number kept same found. absurd (cc same)) tt
    c.open_requests.ensures.machine in
    let less = room_finished c.self.inside.present c.in-Ok._finished c.step.new.self
    (sym c.if-is_stopped.ensures) c.in-Ok.ensures.made in
    let longer = length_push c.self.inside.events.items (event_alone Finish) in
    let room : HasRoom (then c) = omega (arith, longer, less, c.self.invariant.1) in
    let same : then c ≡ new c =
    cc (c.push_reserved.ensures.items, c.alone.ensures, nothing_more c.self.inside.made) in (
      subst IsStore same is,
      subst HasRoom same room,
      omega (arith, c.push_reserved.ensures.capacity, c.self.invariant.2),
    )
