-- The numbers of calls to a point that wait and that are in flight: of those in its outbox, the
-- first one is in flight or waits like the others.
use Rattle.std.specs.Prelude.{ℕ, ◌-◌, Bool, true, false, Option, None, Some, length, if◌then◌else◌}
use Rattle.ocpp_scalars.specs.declared.instant.Instant.{Instant}
use Rattle.site_core.specs.Outbox.{OutboxState, is_number_in_flight}
use Rattle.site_status.specs.declared.point_activity.SentMoment.{SentMoment}

abbrev pub in_flight : OutboxState → ℕ
in_flight outbox = if outbox.is_in_flight then 1 else 0

abbrev pub waiting : OutboxState → ℕ
waiting outbox = length outbox.calls - in_flight outbox

-- the moment at which the call in flight was sent, if known
abbrev pub in_flight_since : OutboxState → Option SentMoment → Option Instant
in_flight_since outbox None = None
in_flight_since outbox (Some sent) =
    if is_number_in_flight outbox sent.number then Some sent.moment else None
