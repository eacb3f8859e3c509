-- The state between two lines of a script.
use Rattle.std.specs.Prelude.{List, []}
use Rattle.site_rules.specs.Site.{SiteState}
use Rattle.site_core.specs.State.{MachineState, opening}
use Rattle.replay.specs.declared.player.held.Held.{Held}

pub record PlayerState : Type 0 where
  -- the central system's machine
  pub machine : MachineState
  -- the held requests, in the order of their lines
  pub held : List Held

abbrev pub with_machine : PlayerState → MachineState → PlayerState
with_machine old machine = record old { machine = machine }

-- before the first line of a script that begins with this machine
abbrev pub state_with : MachineState → PlayerState
state_with machine = record { machine = machine; held = [] }

-- before the first line
abbrev pub first_state : SiteState → PlayerState
first_state site = state_with (opening site)
