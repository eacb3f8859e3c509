-- The link over which a call can be sent, and the effect of a Send if there is none.
use Rattle.std.proofs.Common.{◌≡◌, ℕ, ◌==◌, Bool, true, false, cond, List, Option, Some, None, is_some, Ok, Err, refl, ap}
use Rattle.std.specs.Prelude.{IfOk}
use Rattle.ocpp_scalars.specs.ResultSteps.{◌>>=◌}
use Rattle.ocpp_scalars.specs.declared.refusal.Refusal.TheVariants.{Stopped, Superseded}
use Rattle.site_rules.specs.Site.{place_of}
use Rattle.messages.specs.declared.call.Call.{Call}
use Rattle.site_core.specs.declared.reply.Reply.TheVariants.{Nothing}
use Rattle.site_core.specs.declared.step.Step.TheVariants as steps
use Rattle.site_core.specs.declared.via.Via.TheVariants.{Link}
use Rattle.site_core.specs.Outbox.{sendable}
use Rattle.site_core.specs.State.{MachineState, outbox_at, link_at, link_of, link_to_send_at, link_to_send, is_this_number}
use Rattle.site_core.specs.Step.{Made, unchanged, found_place, made_at, sends_call, SendsNothing}

over_present : (call : Option Call) (present : Option ℕ) (link : ℕ)
    → cond (is_some call) present None ≡ Some link → present ≡ Some link
over_present None present link h = absurd (cc h)
over_present (Some call) present link h = h

-- the link over which a call can be sent is the present one
pub link_to_send_present : (state : MachineState) (point : List ℕ) (link : ℕ)
    → link_to_send state point ≡ Some link → link_of state point ≡ Some link
link_to_send_present state point link h = by state.is_stopped (place_of state.site point) h
  where
    by : (stopped : Bool) (found : Option ℕ) → cond stopped None
        (link_to_send_at state found) ≡ Some link → link_at state found ≡ Some link
    by true found h = absurd (cc h)
    by false None h = absurd (cc h)
    by false (Some place) h = over_present (sendable (outbox_at state place))
        (outbox_at state place).link link h

-- the state is unchanged, and the reply is Nothing
abbrev IsNothing : MachineState → Made → Type 0
IsNothing state made = made ≡ unchanged state Nothing

-- the result of a Send at a place
abbrev sending : MachineState → List ℕ → ℕ → ℕ → Made
sending state point link place = made_at state (steps.Send point link) place
    (sends_call (sendable (outbox_at state place)))

nothing_over : (state : MachineState) (point : List ℕ) (link place : ℕ) (present : Option ℕ)
    (call : Option Call) → sendable (outbox_at state place) ≡ call
    → cond (is_some call) present None ≡ None
    → IfOk (cond (is_this_number link present) (Ok place) (Err Superseded)
    >>= (λ there. Ok (sending state point link there))) (IsNothing state)
nothing_over state point link place None call has h = tt
nothing_over state point link place (Some present) (Some call) has h = absurd (cc h)
nothing_over state point link place (Some present) None has h = by (present == link)
  where
    by : (same : Bool) → IfOk (cond same (Ok place) (Err Superseded)
        >>= (λ there. Ok (sending state point link there))) (IsNothing state)
    by true = ap (λ (c : Option Call). made_at state (steps.Send point link) place
        (sends_call c)) has
    by false = tt

-- without such a call, a Send over any link sends nothing
pub sends_nothing : (state : MachineState) (point : List ℕ) (link : ℕ)
    → link_to_send state point ≡ None → SendsNothing state point link
sends_nothing state point link h = by state.is_stopped (place_of state.site point) h
  where
    by : (stopped : Bool) (found : Option ℕ) → cond stopped None
        (link_to_send_at state found) ≡ None
        → IfOk (cond stopped (Err Stopped) (found_place state (Link link) found)
        >>= (λ there. Ok (sending state point link there))) (IsNothing state)
    by true found h = tt
    by false None h = tt
    by false (Some place) h = nothing_over state point link place (outbox_at state place).link
        (sendable (outbox_at state place)) refl h
