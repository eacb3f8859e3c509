-- The remaining periods are in order after the periods so far exactly if all periods are in order.
use Rattle.std.proofs.Common.{◌≡◌, drop}
use Rattle.profile.specs.Periods.{are_in_order}
use Rattle.profile.specs.ByCases.Periods.{are_in_order_after}
use Rattle.profile.proofs.periods.are_in_order.Given as goal

abbrev pub invariant-loop-period : goal.invariant-loop-period
invariant-loop-period l = are_in_order_after l.previous (drop l.period-index l.periods) ≡ are_in_order l.periods
