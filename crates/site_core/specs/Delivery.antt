-- The calls that bring the installed profiles to a charge point (OCPP 1.6, 5.16 and 5.11), and what
-- the point is known to have: a profile that it is meant to have may be on its way, or rejected.
use Rattle.std.specs.Prelude.{ℕ, max, nat_lt, ◌==◌, Bool, true, false, not, ◌&&◌, List, [], ◌∷◌, ◌++◌, filter, map, Option, Some, None, option_and_then, slice_get, if◌then◌else◌}
use Rattle.std.specs.List.{list_any, position}
use Rattle.std.specs.Ordering.{int_eq}
use Rattle.profile.specs.declared.row.Row.{Row}
use Rattle.messages.specs.declared.call.Call.{Call}
use Rattle.sweep_compiler.specs.declared.verdict.Verdict.{Verdict}
use Rattle.sweep_compiler.specs.declared.verdict.Verdict.TheVariants.{Agrees, Differs, Rejected, Unsettled}
use Rattle.site_core.specs.declared.deliveries.Delivery.{Delivery}
use Rattle.site_core.specs.declared.deliveries.ProfileState.{ProfileState}
use Rattle.site_core.specs.declared.deliveries.ProfileState.TheVariants as profile_states
use Rattle.site_core.specs.Audit.{AuditState}
use Rattle.site_core.specs.Outbox.{is_unconfirmed}

-- ---- the deliveries of a point

-- a delivery is of a row's profile, or of one of these rows
abbrev pub is_delivery_of : Row → Delivery → Bool
is_delivery_of row delivery = int_eq row.profile.id delivery.profile

abbrev pub is_among : List Row → Delivery → Bool
is_among rows delivery = list_any (λ row. is_delivery_of row delivery) rows

-- a new delivery is of the same profile
abbrev pub is_replaced : Delivery → Delivery → Bool
is_replaced new delivery = int_eq delivery.profile new.profile

-- A new delivery takes the place of the one of its profile. Those of profiles that are no longer
-- among these rows are dropped.
abbrev pub remains_beside : List Row → Delivery → Delivery → Bool
remains_beside rows new delivery = is_among rows delivery && not (is_replaced new delivery)

abbrev pub with_delivery : List Row → List Delivery → Delivery → List Delivery
with_delivery rows deliveries new = filter (remains_beside rows new) deliveries ++ new ∷ []

-- ---- the point's reply

abbrev pub rejected_by : ℕ → Delivery → Delivery
rejected_by number delivery =
    if delivery.call == number then record delivery { is_rejected = true } else delivery

-- After the point replied to the call of a number. If it doesn't accept, it rejects the profile
-- that came with that call.
abbrev pub deliveries_after_reply : ℕ → Bool → List Delivery → List Delivery
deliveries_after_reply number true deliveries = deliveries
deliveries_after_reply number false deliveries = map (rejected_by number) deliveries

-- ---- what the point is known to have

-- The first call whose profile a point can't have lost, after an audit by the call of a number. A
-- point that differs may have lost each profile that came before that call. A point that agrees has
-- lost none, unless the audit was called before its boot.
abbrev pub lost_by_verdict : ℕ → Option Verdict → ℕ → ℕ
lost_by_verdict number None lost_before = lost_before
lost_by_verdict number (Some Agrees) lost_before =
    if nat_lt number lost_before then lost_before else 0
lost_by_verdict number (Some Differs) lost_before = max lost_before number
lost_by_verdict number (Some Rejected) lost_before = lost_before
lost_by_verdict number (Some Unsettled) lost_before = lost_before

abbrev pub lost_after_audit : Option AuditState → ℕ → ℕ
lost_after_audit None lost_before = lost_before
lost_after_audit (Some audit) lost_before = lost_by_verdict audit.number audit.verdict lost_before

-- The state of a profile at its point: rejected, not confirmed yet, perhaps lost since, or held.
-- `lost_before` is the first call whose profile the point can't have lost since.
abbrev pub profile_state : List Call → ℕ → Delivery → ProfileState
profile_state calls lost_before delivery =
    if delivery.is_rejected then profile_states.Rejected
    else if is_unconfirmed calls delivery.call then profile_states.Sent
    else if nat_lt delivery.call lost_before then profile_states.Unsure
    else profile_states.Held

-- the delivery of a row's profile, and its state; without a delivery nothing is sure
abbrev pub delivery_of : List Delivery → Row → Option Delivery
delivery_of deliveries row =
    option_and_then (slice_get deliveries) (position (is_delivery_of row) deliveries)

abbrev pub profile_state_by : List Call → ℕ → Option Delivery → ProfileState
profile_state_by calls lost_before None = profile_states.Unsure
profile_state_by calls lost_before (Some delivery) = profile_state calls lost_before delivery
