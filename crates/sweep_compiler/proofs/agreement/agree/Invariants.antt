-- The schedules agree before the two periods, which are in the lists or at their ends.
use Rattle.std.proofs.Common.{◌+◌, ◌-◌, ◌≤◌, length}
use Rattle.sweep_compiler.specs.ByCases.Agree.{AgreeBefore}
use Rattle.sweep_compiler.proofs.agreement.agree.Given as goal

abbrev pub invariant-loop-one : goal.invariant-loop-one
invariant-loop-one l = record {
  agree : AgreeBefore l.first l.first_start l.one l.second l.second_start l.other;
  inside : l.one ≤ length l.first.periods;
  within : l.other ≤ length l.second.periods;
}

abbrev pub decreases-loop-one : goal.decreases-loop-one
decreases-loop-one l = (length l.first.periods - l.one) + (length l.second.periods - l.other)
