-- The step continues from the last one.
use Rattle.std.proofs.Common.{rules}
use Rattle.journal.proofs.AccountLemmas.{step_noted}
use Rattle.journal.proofs.noted_steps.NotedSteps.note.Goals as goal

pub invariant_of-self : goal.invariant_of-self
invariant_of-self g c =
    step_noted g.N.ListName.is_recorded c.self.inside.first c.self.inside.last c.args.step.before c.args.step.after
    c.self.inside.entries.items c.push.new.self.items c.args.step.entry c.args.step.number
    c.self.invariant (search rules) (search rules) (search rules) c.requires c.in-Ok.ensures.items
