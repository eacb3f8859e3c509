-- The recorded states of a book: the first one, and that after each change, without requests for
-- schedules.
use Rattle.std.specs.Prelude.{ℕ, ◌≡◌, ◌<◌, ◌≤◌, Bool, true, false, List, [], ◌∷◌, ◌++◌, length, Option, Some, None, Ok}
use Rattle.site_rules.specs.Site.{SiteState}
use Rattle.site_core.specs.declared.step.Step.{Step}
use Rattle.site_core.specs.declared.step.Step.TheVariants as steps
use Rattle.site_core.specs.declared.reply.Reply.{Reply}
use Rattle.site_core.specs.State.{MachineState, opening}
use Rattle.site_core.specs.StoredHistory.{StoredEvent, made_of}

-- ---- requests

-- a state without its requests, and without the number that was drawn last for one
abbrev pub forget : MachineState → MachineState
forget state = record state { requests = []; numbers = record state.numbers { request = 0 } }

-- whether a step is about a request for a schedule
abbrev pub is_of_request : Step → Bool
is_of_request (steps.Take take) = true
is_of_request (steps.Compile number) = true
is_of_request (steps.Answer number) = true
is_of_request step = false

-- a step about a request led from one state to another
pub record RequestLeads (old new : MachineState) : Type 0 where
  pub stored : StoredEvent
  pub reply : Reply
  pub request : is_of_request stored.step ≡ true
  pub made : made_of old stored ≡ Ok (record { reply = reply; after = new })

-- ---- the recorded states

-- the last of some states is this one
abbrev pub EndsAt : List MachineState → MachineState → Type 0
EndsAt states state = (before : List MachineState) × (states ≡ before ++ forget state ∷ [])

-- one of some states is this one
abbrev pub HasState : List MachineState → MachineState → Type 0
HasState states state =
    (before behind : List MachineState) × (states ≡ before ++ forget state ∷ behind)

-- if states are recorded, the last one is this
abbrev pub IsAt : Bool → List MachineState → MachineState → Type 0
IsAt is_recorded states state = is_recorded ≡ true → EndsAt states state

-- some states, and one more
abbrev pub IsNextOf : List MachineState → List MachineState → Type 0
IsNextOf states later = (state : MachineState) × (later ≡ states ++ state ∷ [])

-- the recorded states before any change
abbrev pub opening_states : SiteState → List MachineState
opening_states site = forget (opening site) ∷ []

-- ---- as the code has it

abbrev pub or_none : Option (List MachineState) → List MachineState
or_none None = []
or_none (Some states) = states

-- the number of states in 64 bits: exact below the largest
abbrev pub last_count : ℕ
last_count = 18446744073709551615

pub record IsCountOf (states : List MachineState) (count : ℕ) : Type 0 where
  pub at_most : count ≤ length states
  pub exact : count < last_count → count ≡ length states
