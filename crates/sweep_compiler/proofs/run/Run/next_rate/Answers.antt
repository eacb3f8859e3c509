-- The next place has the rate there.
use Rattle.std.proofs.Common.{Option, subst, ap, ◌∙◌}
use Rattle.recurrence.specs.declared.place.Place.{Place}
use Rattle.sweep_compiler.specs.ByCases.Running.{Running, IsRun, rate_running, passed}
use Rattle.sweep_compiler.proofs.Running.{next_rate_some}
use Rattle.sweep_compiler.proofs.run.Run.next_rate.Goals as goal

pub returns-in-Some : goal.returns-in-Some
returns-in-Some c =
    let self = c.self.inside in
    let run : Running = record { row = self.row.now; base = self.base; since = self.since; last = self.last } in
    let is = subst (λ (next : Option Place). IsRun run self.rate next self.later) c.in-Some.is c.self.invariant in
    next_rate_some run self.rate c.in-Some.place self.later is ∙ ap (λ (run : Running). rate_running (passed run)) c.self.view_is
