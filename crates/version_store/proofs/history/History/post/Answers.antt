-- A compiled request leaves the room for its event.
use Rattle.std.proofs.Common.{◌≡◌, ap, sym, ◌∙◌, subst, arith}
use Rattle.std.proofs.lemmas.List.{length_push}
use Rattle.site_core.specs.declared.reply.Reply.TheVariants.{Compiled}
use Rattle.site_core.specs.StoredHistory.{StoredEvent}
use Rattle.version_store.specs.contracts.history.History.{the_view}
use Rattle.version_store.specs.Store.{StoreState, IsStore, HasRoom, with_event}
use Rattle.version_store.specs.Calls.{compile_event}
use Rattle.version_store.proofs.HistoryLemmas.{made_with, nothing_more, store_goes_on}
use Rattle.version_store.proofs.RequestLemmas.{room_compiled, posted_may_be_given}
use Rattle.version_store.proofs.history.History.post.Goals as goal

pub push_reserved-requires : goal.push_reserved-requires
push_reserved-requires c =
    let room = room_compiled c.self.inside.present c.args.number c.args.brought.answer
    c.post.new.self c.in_ok-again.ensures.posts.made in
    omega (arith, room, c.self.invariant.1, c.self.invariant.2, c.self.inside.events.ok)

pub invariant_of-self-2 : goal.invariant_of-self-2
invariant_of-self-2 c =
    let old : StoreState = the_view c.self.inside in
    let event : StoredEvent = compile_event c.args.number c.args.brought.answer in
    let then : StoreState = with_event old event (made_with Compiled c.post.new.self) in
    let new : StoreState = the_view (record c.self.inside {
      events = c.push_reserved.new.self;
      present = c.post.new.self;
    }) in
    let posts = c.in_ok-again.ensures.posts in
    let given = posted_may_be_given old.present c.args.number c.args.brought c.post.new.self posts in
    let is = store_goes_on c.machine_laws.ensures old c.self.invariant.0 event Compiled c.post.new.self
    posts.made given tt c.open_requests.ensures.machine in
    let less = room_compiled old.present c.args.number c.args.brought.answer c.post.new.self
    posts.made in
    let longer = length_push old.events event in
    let room : HasRoom then = omega (arith, longer, less, c.self.invariant.1) in
    let stored : event ≡ c.compiled.result =
    ap (compile_event c.args.number) (sym c.in_ok-again.ensures.again) ∙ sym c.compiled.ensures in
    let same : then ≡ new = cc (c.push_reserved.ensures.items, stored, nothing_more old.made) in (
      subst IsStore same is,
      subst HasRoom same room,
      omega (arith, c.push_reserved.ensures.capacity, c.self.invariant.2),
    )
