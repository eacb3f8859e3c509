-- The outcomes of a compile and of its answer are the exact ones, unless memory ran out.
use Rattle.std.proofs.Common.{sym, ◌∙◌}
use Rattle.replay.proofs.MachineLemmas.{hands_out}
use Rattle.replay.proofs.player.machine_steps.hand_out.Goals as goal

pub returns : goal.returns
returns c =
    hands_out c.args.machine.now c.make_step.new.machine c.make_step-2.new.machine c.args.number c.in_ok-make_step.field-0 c.in_ok-outcome.outcome
    c.in_ok-make_step.ensures c.in_ok-outcome.ensures (sym c.is_memory.ensures ∙ c.if-is_memory.false) c.exact_schedules.ensures.answer c.exact_schedules.ensures.too_long
