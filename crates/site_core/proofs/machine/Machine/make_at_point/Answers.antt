-- A step made at its point is made for the whole state.
use Rattle.std.proofs.Common.{◌≡◌, Some, subst, sym, ◌∙◌}
use Rattle.site_rules.specs.Site.{place_of}
use Rattle.site_core.specs.State.{MachineState}
use Rattle.site_core.specs.contracts.machine.Machine.{the_view}
use Rattle.site_core.proofs.MachineLemmas.{connectors_of, knows_place, made_so, refused_so, the_point}
use Rattle.site_core.proofs.machine.Machine.make_at_point.Goals as goal

pub make-requires-clause-connectors : goal.make-requires-clause-connectors
make-requires-clause-connectors c =
    let old = the_view c.self.inside in
    let knows = knows_place (the_view c.self.inside) c.args.self.now c.args.step.now c.deref.result.now c.target-via.result.0.now c.target-via.result.1 c.in_ok-place.place c.index_mut.result.now c.self.view_is c.self.invariant c.target-via.ensures c.in_ok-place.ensures.place c.in_ok-place.ensures.within c.index_mut.ensures.value c.deref.ensures in
    let here : place_of old.site c.target-via.result.0.now ≡ Some c.in_ok-place.place =
    subst (λ (s : MachineState). place_of s.site c.target-via.result.0.now ≡ Some c.in_ok-place.place) (sym c.self.view_is) c.in_ok-place.ensures.here in
    let was = the_point old c.args.step.now c.deref.result.now c.target-via.result.0.now c.target-via.result.1 c.in_ok-place.place c.index_mut.result.now knows in
    rw (was, c.deref.ensures) (connectors_of old c.args.step.now c.target-via.result.0.now c.target-via.result.1 c.in_ok-place.place c.self.invariant c.target-via.ensures here knows.within)

pub invariant_of-self : goal.invariant_of-self
invariant_of-self c =
    let knows = knows_place (the_view c.self.inside) c.args.self.now c.args.step.now c.deref.result.now c.target-via.result.0.now c.target-via.result.1 c.in_ok-place.place c.index_mut.result.now c.self.view_is c.self.invariant c.target-via.ensures c.in_ok-place.ensures.place c.in_ok-place.ensures.within c.index_mut.ensures.value c.deref.ensures in
    (made_so (the_view c.self.inside) c.args.step.now c.deref.result.now c.target-via.result.0.now c.target-via.result.1 c.in_ok-place.place c.index_mut.result.now c.in-Ok.reply c.make.new.self c.drawn-self-inside.result knows c.in-Ok.ensures.worked c.drawn-self-inside.ensures).machine

pub invariant_of-self-in-Err : goal.invariant_of-self-in-Err
invariant_of-self-in-Err c =
    let knows = knows_place (the_view c.self.inside) c.args.self.now c.args.step.now c.deref.result.now c.target-via.result.0.now c.target-via.result.1 c.in_ok-place.place c.index_mut.result.now c.self.view_is c.self.invariant c.target-via.ensures c.in_ok-place.ensures.place c.in_ok-place.ensures.within c.index_mut.ensures.value c.deref.ensures in
    (refused_so (the_view c.self.inside) c.args.step.now c.deref.result.now c.target-via.result.0.now c.target-via.result.1 c.in_ok-place.place c.index_mut.result.now c.in-Err.refusal c.make.new.self knows c.in-Err.ensures.worked).machine

pub returns-in-Ok-clause-made : goal.returns-in-Ok-clause-made
returns-in-Ok-clause-made c =
    let knows = knows_place (the_view c.self.inside) c.args.self.now c.args.step.now c.deref.result.now c.target-via.result.0.now c.target-via.result.1 c.in_ok-place.place c.index_mut.result.now c.self.view_is c.self.invariant c.target-via.ensures c.in_ok-place.ensures.place c.in_ok-place.ensures.within c.index_mut.ensures.value c.deref.ensures in
    rw (← c.self.view_is) (made_so (the_view c.self.inside) c.args.step.now c.deref.result.now c.target-via.result.0.now c.target-via.result.1 c.in_ok-place.place c.index_mut.result.now c.in-Ok.reply c.make.new.self c.drawn-self-inside.result knows c.in-Ok.ensures.worked c.drawn-self-inside.ensures).steps

pub returns-in-Ok-clause-asked : goal.returns-in-Ok-clause-asked
returns-in-Ok-clause-asked c =
    let knows = knows_place (the_view c.self.inside) c.args.self.now c.args.step.now c.deref.result.now c.target-via.result.0.now c.target-via.result.1 c.in_ok-place.place c.index_mut.result.now c.self.view_is c.self.invariant c.target-via.ensures c.in_ok-place.ensures.place c.in_ok-place.ensures.within c.index_mut.ensures.value c.deref.ensures in
    (made_so (the_view c.self.inside) c.args.step.now c.deref.result.now c.target-via.result.0.now c.target-via.result.1 c.in_ok-place.place c.index_mut.result.now c.in-Ok.reply c.make.new.self c.drawn-self-inside.result knows c.in-Ok.ensures.worked c.drawn-self-inside.ensures).asked

pub returns-in-Err-clause-refused : goal.returns-in-Err-clause-refused
returns-in-Err-clause-refused c =
    let knows = knows_place (the_view c.self.inside) c.args.self.now c.args.step.now c.deref.result.now c.target-via.result.0.now c.target-via.result.1 c.in_ok-place.place c.index_mut.result.now c.self.view_is c.self.invariant c.target-via.ensures c.in_ok-place.ensures.place c.in_ok-place.ensures.within c.index_mut.ensures.value c.deref.ensures in
    let refused = refused_so (the_view c.self.inside) c.args.step.now c.deref.result.now c.target-via.result.0.now c.target-via.result.1 c.in_ok-place.place c.index_mut.result.now c.in-Err.refusal c.make.new.self knows c.in-Err.ensures.worked in
    (rw (← c.self.view_is) refused.cause, refused.unchanged ∙ c.self.view_is)
