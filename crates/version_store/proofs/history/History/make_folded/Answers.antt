-- The history begins again with the present state, and goes on with one event.
use Rattle.std.proofs.Common.{◌≡◌, ◌≤◌, true, ap, sym, subst, arith, length}
use Rattle.std.specs.Vec.{vec_capacity}
use Rattle.site_core.specs.Step.{stepped, no_answer}
use Rattle.version_store.specs.contracts.history.History.{the_view}
use Rattle.version_store.specs.Limits.{fold_from}
use Rattle.version_store.specs.Store.{StoreState, IsStore, HasRoom, with_event, folded}
use Rattle.version_store.specs.Calls.{Adds, event_alone}
use Rattle.version_store.proofs.HistoryLemmas.{made_with, counts_fit, room_for_more, store_folds}
use Rattle.version_store.proofs.CallLemmas.{outlook_of_same, refused_event, goes_on_alone, adds_alone, is_folded}
use Rattle.version_store.proofs.history.History.make_folded.Goals as goal

pub returns-in-Err-clause-refusal : goal.returns-in-Err-clause-refusal
returns-in-Err-clause-refusal c =
    let added = outlook_of_same c.args.self.now _ c.args.step true c.self.view_is c.requires.added
    in
    refused_event c.self.inside.present (stepped no_answer c.self.inside.present c.args.step)
    c.in-Err.refusal added c.in-Err.ensures.refused.0

pub after-self-inside-requires-clause-changes : goal.after-self-inside-requires-clause-changes
after-self-inside-requires-clause-changes c =
    let was = store_folds c.machine_laws.ensures _ c.self.invariant.0 in
    let is = goes_on_alone c.machine_laws.ensures _ was c.args.step c.in-Ok-make.reply
    c.make.new.self c.requires.can_fold c.in-Ok-make.ensures.made c.in-Ok-make.ensures.brought
    c.open_requests.ensures.machine in
    let fits = counts_fit c.machine_laws.ensures _ is c.open_requests.ensures.machine in
    omega (arith, fits.changes)

pub after-self-inside-requires-clause-answers : goal.after-self-inside-requires-clause-answers
after-self-inside-requires-clause-answers c =
    let was = store_folds c.machine_laws.ensures _ c.self.invariant.0 in
    let is = goes_on_alone c.machine_laws.ensures _ was c.args.step c.in-Ok-make.reply
    c.make.new.self c.requires.can_fold c.in-Ok-make.ensures.made c.in-Ok-make.ensures.brought
    c.open_requests.ensures.machine in
    let fits = counts_fit c.machine_laws.ensures _ is c.open_requests.ensures.machine in
    omega (arith, fits.answers)

abbrev new : (c : goal.After-push_reserved) → StoreState
new c = the_view (record c.self.inside {
  base = c.replace-old_base.new.dest;
  based = c.self.inside.made;
  events = c.push_reserved.new.self;
  present = c.make.new.self;
  made = c.after-self-inside.result;
})

abbrev then : (c : goal.After-push_reserved) → StoreState
then c = with_event (folded (the_view c.self.inside)) (event_alone c.args.step)
    (made_with c.in-Ok-make.reply c.make.new.self)

pub invariant_of-self-2 : goal.invariant_of-self-2
invariant_of-self-2 c =
    let same : then c ≡ new c = cc (
      c.push_reserved.ensures.items,
      c.into_events.ensures.events,
      c.replace-old_events.ensures.after,
      c.replace-old_base.ensures.after,
      c.in-Ok.ensures,
      c.alone.ensures,
      c.after-self-inside.ensures,
    ) in
    let was = store_folds c.machine_laws.ensures _ c.self.invariant.0 in
    let is = goes_on_alone c.machine_laws.ensures _ was c.args.step c.in-Ok-make.reply
    c.make.new.self c.requires.can_fold c.in-Ok-make.ensures.made c.in-Ok-make.ensures.brought
    c.open_requests.ensures.machine in
    let room : HasRoom (then c) =
    room_for_more (then c) (omega arith) c.open_requests.ensures.machine in (
      subst IsStore same is,
      subst HasRoom same room,
      omega (
        arith,
        c.push_reserved.ensures.capacity,
        ap vec_capacity c.replace-old_events.ensures.after,
        c.into_events.ensures.room,
      ),
    )

pub returns-clause-adds : goal.returns-clause-adds
returns-clause-adds c =
    let same : then c ≡ new c = cc (
      c.push_reserved.ensures.items,
      c.into_events.ensures.events,
      c.replace-old_events.ensures.after,
      c.replace-old_base.ensures.after,
      c.in-Ok.ensures,
      c.alone.ensures,
      c.after-self-inside.ensures,
    ) in
    let was = the_view c.self.inside in
    let added = outlook_of_same c.args.self.now _ c.args.step true c.self.view_is c.requires.added
    in
    let many = subst (λ (s : StoreState). fold_from ≤ length s.events) (sym c.self.view_is)
    c.requires.many in
    let adds = adds_alone was (folded was) c.args.step c.in-Ok-make.reply c.make.new.self
    c.requires.can_fold added c.in-Ok-make.ensures.made
    (is_folded was c.args.step c.requires.can_fold many) (new c) (sym same) in
    subst (λ (s : StoreState). Adds s (event_alone c.args.step) c.in-Ok-make.reply (new c))
    c.self.view_is adds
