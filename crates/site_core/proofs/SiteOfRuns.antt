-- No step changes the site, so no run does.
use Rattle.std.proofs.Common.{◌≡◌, List, [], ◌∷◌, ap, ◌∙◌}
use Rattle.site_core.specs.declared.step.Step.{Step}
use Rattle.site_core.specs.declared.outcome.Outcome.{Outcome}
use Rattle.site_core.specs.declared.outcome.Outcome.TheVariants.{Done, Refused}
use Rattle.site_core.specs.State.{MachineState}
use Rattle.site_core.specs.Run.{HasOutcome, Runs}
use Rattle.site_core.proofs.StepLemmas.{does, keeps_site}

outcome_site : (old : MachineState) (step : Step) (outcome : Outcome) (new : MachineState)
    → HasOutcome old step outcome new → new.site ≡ old.site
outcome_site old step (Done reply) new made =
    keeps_site old step (record { reply = reply; after = new }) (does old step reply new made)
outcome_site old step (Refused refused) new is = ap (λ (s : MachineState). s.site) is.unchanged

pub runs_site : (old new : MachineState) (steps : List Step) (outcomes : List Outcome)
    → Runs old steps outcomes new → new.site ≡ old.site
runs_site old new [] [] runs = ap (λ (s : MachineState). s.site) runs
runs_site old new [] (outcome ∷ outcomes) runs = absurd runs
runs_site old new (step ∷ steps) [] runs = absurd runs
runs_site old new (step ∷ steps) (outcome ∷ outcomes) runs =
    runs_site runs.0 new steps outcomes runs.2 ∙ outcome_site old step outcome runs.0 runs.1
