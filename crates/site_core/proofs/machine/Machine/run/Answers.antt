-- One more step.
use Rattle.std.proofs.Common.{◌≡◌, ◌++◌, ◌∷◌, [], arith}
use Rattle.std.proofs.lemmas.Grind.{common_steps}
use Rattle.site_core.proofs.RunLemmas.{runs_more}
use Rattle.site_core.proofs.machine.Machine.run.Goals as goal

pub loop-step-preserved : goal.loop-step-preserved
loop-step-preserved c =
    let more : c.push.new.self.items ≡ c.loop-step.outcomes.items ++ c.outcome_of-outcome.result ∷ [] = rw c.unwrap.ensures at c.push.ensures.items in
    record {
      runs = rw more (runs_more c.args.self.now c.loop-step.yielded c.in-Some.step c.loop-step.outcomes.items c.outcome_of-outcome.result c.loop-step.self c.outcome_of-outcome.new.self c.loop-step.invariant.runs c.outcome_of-outcome.ensures);
      many = grind (arith, common_steps);
      room = grind (arith, common_steps);
    }
