-- A run: steps one after another, each made or refused.
use Rattle.std.specs.Prelude.{◌≡◌, List, [], ◌∷◌}
use Rattle.site_core.specs.declared.step.Step.{Step}
use Rattle.site_core.specs.declared.outcome.Outcome.{Outcome}
use Rattle.site_core.specs.declared.outcome.Outcome.TheVariants.{Done, Refused}
use Rattle.site_core.specs.State.{MachineState}
use Rattle.site_core.specs.Step.{Steps, IsRefused}

-- a step has this outcome and leads to this state
abbrev pub HasOutcome : MachineState → Step → Outcome → MachineState → Type 0
HasOutcome old step (Done reply) new = Steps old step reply new
HasOutcome old step (Refused refused) new = IsRefused old step refused new

-- steps have these outcomes, one each, and lead to this state
abbrev pub Runs : MachineState → List Step → List Outcome → MachineState → Type 0
Runs old [] [] new = new ≡ old
Runs old (step ∷ steps) (outcome ∷ outcomes) new =
    (middle : MachineState) × HasOutcome old step outcome middle × Runs middle steps outcomes new
Runs old _ _ new = ⊥
