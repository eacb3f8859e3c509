-- The order that the loop checks is that of the definition.
use Rattle.profile.proofs.PeriodLemmas.{in_order-after}
use Rattle.profile.proofs.periods.are_in_order.Goals as goal

pub loop-period-init : goal.loop-period-init
loop-period-init c = in_order-after c.args.periods.now
