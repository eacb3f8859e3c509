-- The decision at the point is the outlook in the whole state.
use Rattle.std.proofs.Common.{◌≡◌, Ok, subst, sym, ◌∙◌}
use Rattle.site_core.specs.State.{MachineState}
use Rattle.site_core.specs.Step.{place_for}
use Rattle.site_core.specs.contracts.machine.Machine.{the_view}
use Rattle.site_core.proofs.MachineLemmas.{decided_here}
use Rattle.site_core.proofs.machine.Machine.outlook_at_point.Goals as goal

pub returns : goal.returns
returns c =
    let old = the_view c.self.inside in
    let found : place_for old c.target-via.result.0.now c.target-via.result.1 ≡ Ok c.in_ok-place.place =
    sym (subst (λ (s : MachineState). Ok c.in_ok-place.place ≡ place_for s c.target-via.result.0.now c.target-via.result.1) (sym c.self.view_is) c.in_ok-place.ensures.place) in
    let says = decided_here old c.args.step.now c.target-via.result.0.now c.target-via.result.1 c.in_ok-place.place c.decide.result c.target-via.ensures found (rw (← c.deref.ensures, ← c.point_at.ensures) c.decide.ensures) in
    rw (← c.self.view_is) (c.outlook_by.ensures ∙ sym says)
