-- The row is at the place that was next.
use Rattle.std.proofs.Common.{Option, subst}
use Rattle.recurrence.specs.declared.place.Place.{Place}
use Rattle.sweep_compiler.specs.ByCases.Running.{Running, IsRun}
use Rattle.sweep_compiler.proofs.Running.{run_passed}
use Rattle.sweep_compiler.proofs.run.Run.pass.Goals as goal

pub invariant_of-self : goal.invariant_of-self
invariant_of-self c =
    let self = c.self.inside in
    let run : Running = record { row = self.row.now; base = self.base; since = self.since; last = self.last } in
    let old = subst (λ (next : Option Place). IsRun run self.rate next self.later) c.in-Some.is c.self.invariant in
    let kept = run_passed run self.rate c.in-Some.place c.next-self-inside.result self.later c.next-self-inside.new.self old c.next-self-inside.ensures.steps in
    search kept
