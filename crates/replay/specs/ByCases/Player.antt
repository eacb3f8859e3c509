-- For private clauses: the effect of a step or a sending on the state of a script's player.
use Rattle.std.specs.Prelude.{◌≡◌, Option, Result}
use Rattle.ocpp_scalars.specs.declared.refusal.Refusal.{Refusal}
use Rattle.messages.specs.declared.call.Call.{Call}
use Rattle.site_core.specs.declared.reply.Reply.{Reply}
use Rattle.replay.specs.MachineSteps.{Stepped, Sending}
use Rattle.replay.specs.Player.{PlayerState}
use Rattle.replay.specs.PointChange.{change_of}

-- the step has this outcome and leads to this state, and the held requests stay
abbrev pub ComesTo : PlayerState → Stepped → Result Reply Refusal → PlayerState → Type 0
ComesTo old step outcome new =
    (step ≡ record { outcome = outcome; after = new.machine }) × (new.held ≡ old.held)

-- this call goes out, if any, the sending leads to this state, and the held requests stay
abbrev pub Sends : PlayerState → Sending → Option Call → PlayerState → Type 0
Sends old sending call new =
    (sending ≡ record { call = call; after = new.machine }) × (new.held ≡ old.held)

-- the step leads to this state, the held requests stay, and the step's change is that of the
-- outcome
pub record Skims (old : PlayerState) (step : Stepped) (outcome : Result Reply Refusal)
    (new : PlayerState) : Type 0 where
  pub after : step.after ≡ new.machine
  pub held : new.held ≡ old.held
  pub change : change_of step.outcome ≡ change_of outcome
