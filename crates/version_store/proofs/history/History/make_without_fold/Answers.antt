-- The history goes on with one event, if the step is one.
use Rattle.std.proofs.Common.{◌≡◌, ◌<◌, sym, subst, arith, length}
use Rattle.std.proofs.lemmas.List.{length_push}
use Rattle.site_core.specs.Step.{stepped, no_answer}
use Rattle.version_store.specs.contracts.history.History.{the_view}
use Rattle.version_store.specs.Limits.{fold_from}
use Rattle.version_store.specs.Store.{StoreState, IsStore, HasRoom, with_event}
use Rattle.version_store.specs.Calls.{IsRefusalOf, event_alone}
use Rattle.version_store.proofs.HistoryLemmas.{made_with, counts_fit, room_for_more}
use Rattle.version_store.proofs.CallLemmas.{refusal_of_store, goes_on_alone}
use Rattle.version_store.proofs.history.History.make_without_fold.Goals as goal

pub returns-in-Err-clause-refusal : goal.returns-in-Err-clause-refusal
returns-in-Err-clause-refusal c =
    let was = the_view c.self.inside in
    let cause = refusal_of_store was c.args.step
    (stepped no_answer was.present c.args.step) c.in-Err.refusal c.in-Err.ensures.refused.0 in
    subst (λ (s : StoreState). IsRefusalOf s c.args.step c.in-Err.refusal) c.self.view_is cause

pub after-self-inside-requires-clause-changes : goal.after-self-inside-requires-clause-changes
after-self-inside-requires-clause-changes c =
    let is = goes_on_alone c.machine_laws.ensures _ c.self.invariant.0 c.args.step c.in-Ok.reply
    c.make.new.self c.requires.can_fold c.in-Ok.ensures.made c.in-Ok.ensures.brought
    c.open_requests.ensures.machine in
    let fits = counts_fit c.machine_laws.ensures _ is c.open_requests.ensures.machine in
    omega (arith, fits.changes)

pub after-self-inside-requires-clause-answers : goal.after-self-inside-requires-clause-answers
after-self-inside-requires-clause-answers c =
    let is = goes_on_alone c.machine_laws.ensures _ c.self.invariant.0 c.args.step c.in-Ok.reply
    c.make.new.self c.requires.can_fold c.in-Ok.ensures.made c.in-Ok.ensures.brought
    c.open_requests.ensures.machine in
    let fits = counts_fit c.machine_laws.ensures _ is c.open_requests.ensures.machine in
    omega (arith, fits.answers)

abbrev new : (c : goal.After-push_reserved) → StoreState
new c = the_view (record c.self.inside {
  events = c.push_reserved.new.self;
  present = c.make.new.self;
  made = c.after-self-inside.result;
})

abbrev then : (c : goal.After-push_reserved) → StoreState
then c = with_event (the_view c.self.inside) (event_alone c.args.step)
    (made_with c.in-Ok.reply c.make.new.self)

few : (c : goal.After-push_reserved) → length c.self.inside.events.items < fold_from
few c = subst (λ (s : StoreState). length s.events < fold_from) (sym c.self.view_is) c.requires.few

pub invariant_of-self-2 : goal.invariant_of-self-2
invariant_of-self-2 c =
    let new_is : then c ≡ new c =
    cc (c.push_reserved.ensures.items, c.alone.ensures, c.after-self-inside.ensures) in
    let is = goes_on_alone c.machine_laws.ensures _ c.self.invariant.0 c.args.step c.in-Ok.reply
    c.make.new.self c.requires.can_fold c.in-Ok.ensures.made c.in-Ok.ensures.brought
    c.open_requests.ensures.machine in
    let longer = length_push c.self.inside.events.items (event_alone c.args.step) in
    let room : HasRoom (then c) =
    room_for_more (then c) (omega (arith, longer, few c)) c.open_requests.ensures.machine in (
      subst IsStore new_is is,
      subst HasRoom new_is room,
      omega (arith, c.push_reserved.ensures.capacity, c.self.invariant.2),
    )
