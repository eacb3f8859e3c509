-- The sweep is at the next place, and the rows that have passed it no longer wait for it.
use Rattle.std.proofs.Common.{◌≡◌}
use Rattle.sweep_compiler.specs.ByCases.Swept.{IsSweptCurve, IsOfOneAsk, waiting_at}
use Rattle.sweep_compiler.proofs.limit_curve.LimitCurve.go_to.Given as goal

abbrev pub invariant-loop-next : goal.invariant-loop-next
invariant-loop-next l = record {
  swept : IsSweptCurve l.self;
  at : l.self.at ≡ l.next;
  same : IsOfOneAsk l.fn.self l.self;
}

abbrev pub decreases-loop-next : goal.decreases-loop-next
decreases-loop-next l = waiting_at l.self.at l.self.queue
