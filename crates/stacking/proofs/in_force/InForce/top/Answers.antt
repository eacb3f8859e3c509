-- The last level prevails.
use Rattle.std.proofs.Common.{rules, ◌≡◌, ◌-◌, length, Some, slice_get}
use Rattle.stacking.proofs.LevelLemmas.{last_is_top}
use Rattle.stacking.proofs.in_force.InForce.top.Goals as goal

pub returns : goal.returns
returns c =
    let rates = c.self.inside.rates.items in
    let last = c.in_ok-rate.field-0.now in
    let read : slice_get rates (length rates - 1) ≡ Some last = search rules in
    let top = last_is_top rates last read c.self.invariant in
    search (rules, top)
