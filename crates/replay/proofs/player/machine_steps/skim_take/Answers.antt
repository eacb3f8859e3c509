-- The first second of a request leads to the same state as the whole request.
use Rattle.std.proofs.Common.{refl, sym, ap, ◌∙◌}
use Rattle.site_core.specs.declared.step.Step.TheVariants as steps
use Rattle.site_core.specs.declared.step.Take.{Take}
use Rattle.replay.specs.PointChange.{change_of}
use Rattle.replay.specs.MachineSteps.{Stepped, stepped_at_once}
use Rattle.replay.specs.ByCases.MachineSteps.{MayBeSkimmed}
use Rattle.replay.proofs.SkimLemmas.{skimmed}
use Rattle.replay.proofs.player.machine_steps.skim_take.Goals as goal

pub returns-then-makes_no_difference : goal.returns-then-makes_no_difference
returns-then-makes_no_difference c =
    let old = c.args.machine.now in
    let may : MayBeSkimmed old c.args.take = c.if-makes_no_difference.ensures refl in
    let same = skimmed old c.args.take may in
    let second = sym c.first_second.ensures in
    record {
      after =
          same.after ∙ (ap (λ (t : Take). (stepped_at_once old (steps.Take t)).after) second
          ∙ ap (λ (s : Stepped). s.after) c.in_ok-outcome.ensures);
      change =
          same.change ∙ (ap (λ (t : Take). change_of (stepped_at_once old (steps.Take t)).outcome) second
          ∙ ap (λ (s : Stepped). change_of s.outcome) c.in_ok-outcome.ensures);
    }
