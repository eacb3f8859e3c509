-- A session: the peer at the other end of a socket, and the point that it is for.
use Rattle.std.specs.Prelude.{ℕ, List, Option, Some, None}
use Rattle.profile.specs.declared.unit.Unit.{Unit}
use Rattle.profile.specs.declared.unit.Unit.TheVariants.{A}
use Rattle.messages.specs.declared.side.Side as sides
use Rattle.messages.specs.declared.side.Side.{Side}
use Rattle.texts.specs.SentText.{Sent, sent}
use Rattle.journal.specs.Line.{SenderState, by_point, by_operator}
use Rattle.session.specs.declared.session_core.Peer.{Peer}
use Rattle.session.specs.declared.session_core.Peer.TheVariants.{Operator, Point}

pub record SessionState : Type 0 where
  -- the identity of the point that an operator's messages are for, or that sends its own
  pub point : List ℕ
  -- the peer at the other end
  pub peer : Peer
  -- the name of an operator's key, if there are keys
  pub name : Option (List ℕ)

abbrev pub operators : List ℕ → Option (List ℕ) → Unit → SessionState
operators id name unit = record { point = id; peer = Operator unit; name = name }

-- a point's session, which has no link yet
abbrev pub points : List ℕ → SessionState
points id = record { point = id; peer = Point None; name = None }

abbrev pub side_of : Peer → Side
side_of (Operator unit) = sides.TheVariants.Operator
side_of (Point link) = sides.TheVariants.Point

-- the sender of its messages
abbrev pub sender_by : Peer → Option (List ℕ) → SenderState
sender_by (Operator unit) name = by_operator name
sender_by (Point link) name = by_point

abbrev pub sender_of : SessionState → SenderState
sender_of session = sender_by session.peer session.name

-- a message of a session that comes at a moment
abbrev pub sent_by : SessionState → ℕ → List ℕ → Sent
sent_by session moment frame = sent moment (side_of session.peer) session.point frame

-- The unit in which schedules are answered: the site's. A point asks for no schedule.
abbrev pub answer_unit : Peer → Unit
answer_unit (Operator unit) = unit
answer_unit (Point link) = A

-- a link becomes a point's present one; an operator has none
abbrev pub linked : Peer → ℕ → Peer
linked (Operator unit) link = Operator unit
linked (Point before) link = Point (Some link)

abbrev pub with_link : SessionState → ℕ → SessionState
with_link session link = record session { peer = linked session.peer link }
