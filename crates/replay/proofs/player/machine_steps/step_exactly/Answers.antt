-- The outcome of a step is its exact outcome.
use Rattle.std.proofs.Common.{◌≡◌, IfOk, Ok, Err}
use Rattle.replay.specs.MachineSteps.{stepped_exactly}
use Rattle.replay.specs.ByCases.MachineSteps.{ComesOf}
use Rattle.replay.proofs.MachineLemmas.{exactly}
use Rattle.replay.proofs.player.machine_steps.step_exactly.Goals as goal

pub returns : goal.returns
returns c =
    elim c.make_step.result as (λ r. IfOk r (λ outcome. ComesOf c.args.machine.now c.args.step outcome c.make_step.new.machine)
    → IfOk r (λ outcome. stepped_exactly c.args.machine.now c.args.step ≡ record { outcome = outcome; after = c.make_step.new.machine })) [
      | Ok outcome ↦ λ made. exactly c.args.machine.now c.args.step outcome c.make_step.new.machine c.requires made
      | Err error ↦ λ made. tt
    ] c.make_step.ensures
