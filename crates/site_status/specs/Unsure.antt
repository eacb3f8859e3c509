-- The profiles that a point accepted and may have lost since: what its maker keeps over a boot
-- isn't known.
use Rattle.std.specs.Prelude.{ℕ, Bool, true, false, List}
use Rattle.std.specs.List.{list_any}
use Rattle.profile.specs.declared.row.Row.{Row}
use Rattle.site_core.specs.State.{MachineState, profile_state_of}
use Rattle.site_core.specs.declared.deliveries.ProfileState.{ProfileState}
use Rattle.site_core.specs.declared.deliveries.ProfileState.TheVariants as profile_states

abbrev pub is_unsure : ProfileState → Bool
is_unsure profile_states.Unsure = true
is_unsure profile_states.Held = false
is_unsure profile_states.Sent = false
is_unsure profile_states.Rejected = false

-- the point of an identity may have lost one of these rows
abbrev pub may_have_lost : MachineState → List ℕ → List Row → Bool
may_have_lost state point rows =
    list_any (λ row. is_unsure (profile_state_of state point row)) rows
