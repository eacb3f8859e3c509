-- The observations of a point, and the change that each one makes. Links are numbered in the order
-- in which points get them, and so are the calls to a point.
use Rattle.std.specs.Prelude.{ℕ, ◌+◌, ◌-◌, ◌^◌, min, nat_lt, ◌==◌, Bool, true, false, Option, None, Some, if◌then◌else◌}
use Rattle.std.specs.declared.alloc.Global.{Global}
use Rattle.std.specs.declared.string.String.{String}
use Rattle.ocpp_scalars.specs.declared.instant.Instant.{Instant}
use Rattle.messages.specs.declared.action_kind.ActionKind.{ActionKind}
use Rattle.site_status.specs.declared.point_activity.Connection.{Connection}
use Rattle.site_status.specs.declared.point_activity.PointActivity.{PointActivity}
use Rattle.site_status.specs.declared.point_activity.RejectedCalls.{RejectedCalls}
use Rattle.site_status.specs.declared.point_activity.SentMoment.{SentMoment}
use Rattle.site_status.specs.declared.point_activity.Observation.{Observation}
use Rattle.site_status.specs.declared.point_activity.Observation.TheVariants.{Connected, Heard, Sent, Refused}

-- ---- connections

-- a connection over which the point has this link since a moment: the later of two links remains
abbrev pub connected : Connection → ℕ → Instant → Connection
connected newest link moment =
    if nat_lt link newest.link then newest else record { link = link; since = Some moment }

-- such a connection has ended; another one remains
abbrev pub left : Connection → ℕ → Connection
left newest link = if newest.link == link then record newest { since = None } else newest

-- ---- observations

abbrev pub unseen : PointActivity
unseen = record {
  connection = record { link = 0; since = None };
  heard = None;
  sent = None;
  rejections = 0;
  rejection = None;
  refusals = 0;
  refused = None;
}

-- a count stops at the maximum of its type
abbrev pub one_more : ℕ → ℕ
one_more count = min (count + 1) (2 ^ 64 - 1)

-- each changes its own subject, and nothing else
abbrev pub seen : PointActivity → Observation → PointActivity
seen old (Connected link moment) =
    record old { connection = connected old.connection link moment }
seen old (Heard moment) = record old { heard = Some moment }
seen old (Sent sent) = record old { sent = Some sent }
seen old (Refused message) =
    record old { refusals = one_more old.refusals; refused = Some message }

-- ---- replies

-- the action of the call of a number, if it is the last one that was sent
abbrev pub action_of : Option SentMoment → ℕ → Option ActionKind
action_of None call = None
action_of (Some sent) call = if sent.number == call then Some sent.action else None

-- after a reply to a call, which rejects it if there is a reason
abbrev pub replied : PointActivity → ℕ → Option (String Global) → Instant → PointActivity
replied old call None moment = old
replied old call (Some reason) moment = record old {
  rejections = one_more old.rejections;
  rejection = Some (record {
    call = call;
    action = action_of old.sent call;
    moment = moment;
    reason = reason;
  });
}

-- after the earlier rejections are known
abbrev pub resumed : PointActivity → RejectedCalls → PointActivity
resumed old rejected =
    record old { rejections = rejected.count; rejection = rejected.last }
