-- Lemmas that crates above cite: histories, one after another.
use Rattle.std.proofs.Common.{List, [], ◌∷◌, ◌++◌, subst}
use Rattle.site_core.specs.State.{MachineState}
use Rattle.site_core.specs.History.{Event, Legal}

pub legal_join : (old : MachineState) (earlier : List Event) (middle : MachineState)
    (later : List Event) (new : MachineState)
    → Legal old earlier middle → Legal middle later new → Legal old (earlier ++ later) new
legal_join old [] middle later new legal then_legal =
    subst (λ (m : MachineState). Legal m later new) legal then_legal
legal_join old (event ∷ earlier) middle later new legal then_legal =
    (legal.0, legal.1, legal_join legal.0 earlier middle later new legal.2 then_legal)
