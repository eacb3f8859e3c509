-- The copies so far and those of the remaining periods are all copies.
use Rattle.std.proofs.Common.{◌≡◌, ◌++◌, drop, map}
use Rattle.messages.specs.Said.{composite_period}
use Rattle.messages.proofs.said.composite_periods.Given as goal

abbrev pub invariant-loop-period : goal.invariant-loop-period
invariant-loop-period l =
    l.copies.items ++ map composite_period (drop l.period-index l.periods)
    ≡ map composite_period l.fn.periods
