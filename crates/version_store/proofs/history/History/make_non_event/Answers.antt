-- An answer without an event is never refused, and changes nothing.
use Rattle.std.proofs.Common.{◌≡◌, ◌≤◌, false, sym, subst}
use Rattle.std.specs.Vec.{vec_capacity}
use Rattle.site_core.specs.State.{MachineState}
use Rattle.site_core.specs.Step.{Steps, stepped, no_answer}
use Rattle.version_store.specs.contracts.history.History.{the_view}
use Rattle.version_store.specs.Limits.{room}
use Rattle.version_store.specs.Store.{StoreState, IsStore, HasRoom}
use Rattle.version_store.specs.Calls.{RepliesAlone}
use Rattle.version_store.proofs.CallLemmas.{outlook_of_same, never_refused, left_alone, replies_alone, nothing_counted}
use Rattle.version_store.proofs.history.History.make_non_event.Goals as goal

pub unreachable-requires : goal.unreachable-requires
unreachable-requires c =
    let no_event = outlook_of_same c.args.self.now _ c.args.step false c.self.view_is
    c.requires.no_event in
    never_refused c.machine_laws.ensures c.self.inside.present
    (stepped no_answer c.self.inside.present c.args.step) c.in-Err.field-0.refusal no_event
    c.in-Err.ensures.made.cause

left : (c : goal.In-Ok) → c.step.new.self ≡ c.self.inside.present
left c =
    let no_event = outlook_of_same c.args.self.now _ c.args.step false c.self.view_is
    c.requires.no_event in
    left_alone c.machine_laws.ensures c.self.inside.present c.args.step c.in-Ok.reply
    c.step.new.self c.requires.can_fold no_event c.in-Ok.ensures.made

abbrev with_present : (c : goal.In-Ok) → MachineState → StoreState
with_present c present = the_view (record c.self.inside { present = present })

pub invariant_of-self : goal.invariant_of-self
invariant_of-self c =
    subst (λ (p : MachineState). IsStore (with_present c p) × HasRoom (with_present c p)
    × (room ≤ vec_capacity c.self.inside.events)) (sym (left c)) c.self.invariant

steps_of : (c : goal.In-Ok)
    → Steps c.self.inside.present c.args.step c.in-Ok.reply c.self.inside.present
steps_of c = subst (λ (p : MachineState). Steps c.self.inside.present c.args.step c.in-Ok.reply p)
    (left c) c.in-Ok.ensures.made

pub returns-clause-replies : goal.returns-clause-replies
returns-clause-replies c =
    let no_event = outlook_of_same c.args.self.now _ c.args.step false c.self.view_is
    c.requires.no_event in
    let tells = replies_alone c.machine_laws.ensures (the_view c.self.inside) c.args.step
    c.in-Ok.reply c.requires.can_fold no_event (steps_of c) in
    subst (λ (s : StoreState). RepliesAlone s c.args.step c.in-Ok.reply (with_present c c.step.new.self))
    c.self.view_is
    (subst (λ (p : MachineState).
    RepliesAlone (the_view c.self.inside) c.args.step c.in-Ok.reply (with_present c p)) (sym (left c)) tells)

pub returns-clause-counts : goal.returns-clause-counts
returns-clause-counts c =
    nothing_counted c.machine_laws.ensures c.self.inside.present c.args.step c.in-Ok.reply
    (steps_of c)
