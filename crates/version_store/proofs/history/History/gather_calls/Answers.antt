-- The present state is as it was.
use Rattle.std.proofs.Common.{◌≤◌, sym, subst}
use Rattle.std.specs.Vec.{vec_capacity}
use Rattle.site_core.specs.State.{MachineState}
use Rattle.version_store.specs.contracts.history.History.{the_view}
use Rattle.version_store.specs.Limits.{room}
use Rattle.version_store.specs.Store.{IsStore, HasRoom}
use Rattle.version_store.proofs.history.History.gather_calls.Goals as goal

pub invariant_of-self : goal.invariant_of-self
invariant_of-self c =
    let with_present = λ (present : MachineState).
    the_view (record c.self.inside { present = present }) in
    subst (λ (p : MachineState). IsStore (with_present p) × HasRoom (with_present p)
    × (room ≤ vec_capacity c.self.inside.events)) (sym c.gather_calls.ensures) c.self.invariant
