-- The number of a transaction is one of 32 bits.
use Rattle.std.proofs.Common.{rules}
use Rattle.std.proofs.lemmas.Int.{to_z-of_z}
use mir.Syntax.{w32}
use mir.Val.{SFits}
use Rattle.site_core.proofs.charge_point.ChargePoint.make.Goals as goal

pub returns-in-Stop-clause-worked : goal.returns-in-Stop-clause-worked
returns-in-Stop-clause-worked c =
    let fits : SFits w32 c.in-Stop.transaction = search rules in
    rw c.in-Stop.is (rw (to_z-of_z w32 c.in-Stop.transaction fits) at c.stop.ensures)
