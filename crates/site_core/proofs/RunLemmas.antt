-- A run with one more step.
use Rattle.std.proofs.Common.{List, [], ◌∷◌, ◌++◌, refl, subst}
use Rattle.site_core.specs.declared.step.Step.{Step}
use Rattle.site_core.specs.declared.outcome.Outcome.{Outcome}
use Rattle.site_core.specs.State.{MachineState}
use Rattle.site_core.specs.Run.{HasOutcome, Runs}

pub runs_more : (old : MachineState) (steps : List Step) (step : Step) (outcomes : List Outcome)
    (outcome : Outcome) (middle new : MachineState)
    → Runs old steps outcomes middle → HasOutcome middle step outcome new
    → Runs old (steps ++ step ∷ []) (outcomes ++ outcome ∷ []) new
runs_more old [] step [] outcome middle new same has =
    (new, subst (λ (state : MachineState). HasOutcome state step outcome new) same has, refl)
runs_more old [] step (first ∷ outcomes) outcome middle new never has = absurd never
runs_more old (first ∷ steps) step [] outcome middle new never has = absurd never
runs_more old (first ∷ steps) step (one ∷ outcomes) outcome middle new runs has =
    (runs.0, runs.1, runs_more runs.0 steps step outcomes outcome middle new runs.2 has)
