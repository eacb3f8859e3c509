-- A script between two of its lines.
use Rattle.std.specs.Prelude.{ℕ, List}
use Rattle.site_core.specs.State.{MachineState, opening}
use Rattle.site_rules.specs.Site.{SiteState}
use Rattle.replay.specs.Player.{PlayerState, state_with}

pub record PlayingState : Type 0 where
  -- the number of the next line
  pub number : ℕ
  -- how many lines so far had a fault
  pub faults : ℕ
  -- the player's state
  pub state : PlayerState
  -- the rest of the script
  pub rest : List ℕ

-- the beginning of a script on this machine
abbrev pub on_machine : MachineState → List ℕ → PlayingState
on_machine machine script =
    record { number = 1; faults = 0; state = state_with machine; rest = script }

abbrev pub before_first_line : SiteState → List ℕ → PlayingState
before_first_line site script = on_machine (opening site) script
