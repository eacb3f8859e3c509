-- Lemmas that crates above cite: steps by their kind of work, and by their need of memory.
use Rattle.std.proofs.Common.{◌≡◌, ℕ, Ok, refl, sym, ap, ◌∙◌, subst}
use Rattle.site_core.specs.declared.step.Step.{Step}
use Rattle.site_core.specs.declared.step.Step.TheVariants as steps
use Rattle.site_core.specs.declared.step.Take.{Take}
use Rattle.site_core.specs.declared.reply.Reply.{Reply}
use Rattle.site_core.specs.declared.reply.Reply.TheVariants.{Unknown, Repeated, NoSuch, NotYet, Finished, Nothing, Status}
use Rattle.site_core.specs.State.{MachineState, ScheduleAnswer}
use Rattle.site_core.specs.Step.{PointStep, Work, AtPoint, work, worked, Works, Steps, stepped, no_answer, OnlyEventsWantMemory}

-- ---- the kind of work of a step

pub data StepKind : Step → Type 0 where
  names_point : (step : Step) (at : PointStep) → work step ≡ AtPoint at → StepKind step
  takes_one : (take : Take) → StepKind (steps.Take take)
  compiles_one : (number : ℕ) → StepKind (steps.Compile number)
  answers_one : (number : ℕ) → StepKind (steps.Answer number)
  finishes_all : StepKind steps.Finish

pub kind_of : (step : Step) → StepKind step
kind_of (steps.Take take) = takes_one take
kind_of (steps.Compile number) = compiles_one number
kind_of (steps.Answer number) = answers_one number
kind_of steps.Finish = finishes_all
-- by its work, each other step names a point
kind_of step = names_point _ _ refl

-- ---- a Compile, and every other step

-- the answer beside a step makes no difference
abbrev pub NeedsNoAnswer : Step → Type 0
NeedsNoAnswer step =
    (answer : ScheduleAnswer) (old : MachineState)
    → stepped answer old step ≡ stepped no_answer old step

-- the step is made as the definition says
abbrev pub IsMadeAsDefined : Step → Type 0
IsMadeAsDefined step =
    (old : MachineState) (reply : Reply) (new : MachineState)
    → Steps old step reply new
    → stepped no_answer old step ≡ Ok (record { reply = reply; after = new })

-- and what the definition says is such a step
abbrev pub IsDefinedAsMade : Step → Type 0
IsDefinedAsMade step =
    (old : MachineState) (reply : Reply) (new : MachineState)
    → stepped no_answer old step ≡ Ok (record { reply = reply; after = new })
    → Steps old step reply new

pub data CompileOrOther : Step → Type 0 where
  is_compile : (number : ℕ) → CompileOrOther (steps.Compile number)
  is_other : (step : Step) → NeedsNoAnswer step → IsMadeAsDefined step → IsDefinedAsMade step
      → CompileOrOther step

at_point_is_other : (step : Step) (at : PointStep) → work step ≡ AtPoint at → CompileOrOther step
at_point_is_other step at is =
    is_other step
    (λ answer old. ap (worked answer old step) is ∙ sym (ap (worked no_answer old step) is))
    (λ old reply new made. ap (worked no_answer old step) is
    ∙ subst (λ (w : Work). Works old step w reply new) is made)
    (λ old reply new made. subst (λ (w : Work). Works old step w reply new) (sym is)
    (sym (ap (worked no_answer old step) is) ∙ made))

pub compile_or_other : (step : Step) → CompileOrOther step
compile_or_other step = by step (kind_of step)
  where
    by : (step : Step) → StepKind step → CompileOrOther step
    by step (names_point _ at is) = at_point_is_other step at is
    by _ (takes_one take) =
        is_other _ (λ answer old. refl) (λ old reply new is. is) (λ old reply new is. is)
    by _ (compiles_one number) = is_compile number
    by _ (answers_one number) =
        is_other _ (λ answer old. refl) (λ old reply new is. is) (λ old reply new is. is)
    by _ finishes_all =
        is_other _ (λ answer old. refl) (λ old reply new is. is) (λ old reply new is. is)

-- ---- the need of memory

-- an answer without an event needs no memory
pub only_events_want_memory : OnlyEventsWantMemory
only_events_want_memory old Unknown wants = absurd (cc wants)
only_events_want_memory old (Repeated number) wants = absurd (cc wants)
only_events_want_memory old NoSuch wants = absurd (cc wants)
only_events_want_memory old NotYet wants = absurd (cc wants)
only_events_want_memory old Finished wants = absurd (cc wants)
only_events_want_memory old Nothing wants = absurd (cc wants)
only_events_want_memory old (Status status) wants = absurd (cc wants)
-- each other reply is an event's
only_events_want_memory old reply wants = refl
