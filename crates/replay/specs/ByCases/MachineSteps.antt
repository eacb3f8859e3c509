-- For private clauses: the outcome of a step of the machine, by its relations.
use Rattle.std.specs.Prelude.{◌≡◌, Bool, true, false, [], Some, Result, Ok, Err}
use Rattle.ocpp_scalars.specs.declared.refusal.Refusal.{Refusal}
use Rattle.ocpp_scalars.specs.declared.refusal.Refusal.TheVariants.{OutOfMemory}
use Rattle.meaning.specs.declared.ask.Ask.{Ask}
use Rattle.meaning.specs.Ask.{ask_of}
use Rattle.site_core.specs.declared.step.Step.{Step}
use Rattle.site_core.specs.declared.step.Step.TheVariants as steps
use Rattle.site_core.specs.declared.step.Take.{Take}
use Rattle.site_core.specs.declared.reply.Reply.{Reply}
use Rattle.site_core.specs.declared.reply.Reply.TheVariants.{Answered}
use Rattle.site_core.specs.State.{MachineState}
use Rattle.site_core.specs.Step.{Steps, first_refusal}
use Rattle.replay.specs.MachineSteps.{Stepped}
use Rattle.replay.specs.PointChange.{change_of}

-- it is made, or refused by its first cause
abbrev pub ComesOf : MachineState → Step → Result Reply Refusal → MachineState → Type 0
ComesOf old step (Ok reply) new = Steps old step reply new
ComesOf old step (Err refusal) new = (first_refusal old step ≡ Some refusal) × (new ≡ old)

-- a step that a message requests
abbrev pub IsAsked : Step → Type 0
IsAsked (steps.Compile number) = ⊥
IsAsked step = Unit {0}

-- the answer is the refusal for lack of memory
abbrev pub is_memory : Result Reply Refusal → Bool
is_memory (Ok (Answered book ask (Err OutOfMemory))) = true
is_memory outcome = false

-- the step leads to this state, and its change is that of the outcome
pub record LeadsTo
    (step : Stepped) (outcome : Result Reply Refusal) (new : MachineState) : Type 0 where
  pub after : step.after ≡ new
  pub change : change_of step.outcome ≡ change_of outcome

-- The answer to a Take makes no difference to the state once it was handed out. There is an `Ask`
-- for the Take, and for its first second, and no other request is kept.
pub record MayBeSkimmed (old : MachineState) (take : Take) : Type 0 where
  pub alone : old.requests ≡ []
  pub ask : Ask
  pub asks : ask_of take.connector take.start take.duration ≡ Ok ask
  pub second : Ask
  pub asks_second : ask_of take.connector take.start 1 ≡ Ok second
