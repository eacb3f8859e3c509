-- Each pass makes one step.
use Rattle.std.proofs.Common.{◌≤◌, length}
use Rattle.explain_pages.proofs.steps.profile_steps.Given as goal

abbrev pub invariant-loop : goal.invariant-loop
invariant-loop l = length l.items.items ≤ l.counter
