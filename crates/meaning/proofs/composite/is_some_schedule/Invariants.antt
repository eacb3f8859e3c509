-- All periods make a schedule exactly if the remaining ones continue those so far.
use Rattle.std.proofs.Common.{◌≡◌, drop, None, is_some, nat_lt}
use Rattle.meaning.specs.ByCases.Said.{go_on}
use Rattle.meaning.proofs.composite.is_some_schedule.Given as goal

abbrev pub invariant-loop-period : goal.invariant-loop-period
invariant-loop-period l = record {
  rest : go_on l.before l.duration (drop l.period-index l.periods) ≡ go_on None l.duration l.periods;
  some : is_some l.before ≡ nat_lt 0 l.period-index;
}
