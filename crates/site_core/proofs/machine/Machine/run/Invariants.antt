-- The steps so far are a run with these outcomes, and there is room for one outcome a step.
use Rattle.std.proofs.Common.{◌≡◌, ◌≤◌, length, vec_len, vec_capacity}
use Rattle.site_core.specs.Run.{Runs}
use Rattle.site_core.proofs.machine.Machine.run.Given as goal

abbrev pub invariant-loop-step : goal.invariant-loop-step
invariant-loop-step l = record {
  runs : Runs l.fn.self l.yielded l.outcomes.items l.self;
  many : vec_len l.outcomes ≡ length l.yielded;
  room : length l.fn.steps.items ≤ vec_capacity l.outcomes;
}
