-- The periods so far are exact for the seconds so far.
use Rattle.std.proofs.Common.{◌≡◌, ◌≤◌, length}
use Rattle.meaning.specs.Limits.{max_composite_periods}
use Rattle.meaning.specs.View.{point_state}
use Rattle.meaning.specs.Limit.{limit_asked}
use Rattle.meaning.specs.ByCases.Exact.{exact_periods}
use Rattle.meaning.specs.Theory.PlainCompiler.{limit_before}
use Rattle.meaning.proofs.plain_compiler.compile_plain.Given as goal

abbrev pub invariant-loop-second : goal.invariant-loop-second
invariant-loop-second l = record {
  so_far : l.periods.items ≡ exact_periods (limit_asked (point_state l.view) l.ask.connector l.ask.start) l.second;
  before : l.before ≡ limit_before (limit_asked (point_state l.view) l.ask.connector l.ask.start) l.second;
  few : length l.periods.items ≤ max_composite_periods;
}
