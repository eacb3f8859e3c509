-- The calls of the central system to a charge point, and their changes. A call is sent again until
-- it is confirmed, and the next one only then. `record old { .. }` is the outbox with these fields
-- changed and all others unchanged.
use Rattle.std.specs.Prelude.{ℕ, ◌+◌, ◌-◌, ◌<◌, ◌≤◌, ◌≡◌, nat_le, nat_lt, ◌==◌, Bool, true, false, ◌&&◌, List, [], ◌∷◌, ◌++◌, length, drop, map, Option, None, Some, IsSome, is_some, if◌then◌else◌}
use Rattle.std.specs.List.{list_any, range_with_len}
use Rattle.profile.specs.declared.criteria.Criteria.{Criteria}
use Rattle.messages.specs.declared.call.Call.{Call}
use Rattle.messages.specs.declared.call.CallBody.{CallBody}
use Rattle.messages.specs.declared.call.CallBody.TheVariants.{Clear}
use Rattle.site_core.specs.Limits.{max_number, max_calls}

pub record OutboxState : Type 0 where
  -- the number of the present link to the point, where there is one
  pub link : Option ℕ
  -- the unconfirmed calls, in the order of their numbers
  pub calls : List Call
  -- the number of the next call
  pub next : ℕ
  -- whether the first call was sent over this link, and is unconfirmed
  pub is_in_flight : Bool

-- ---- the opening

-- ClearChargingProfile without a criterion clears every profile (OCPP 1.6, 5.5)
abbrev pub every_profile : Criteria
every_profile = record { id = None; connector = None; purpose = None; stack_level = None }

abbrev pub clear_all : CallBody
clear_all = Clear every_profile

-- every call to a point: call 0 clears all, and call k is the k-th of these
abbrev pub all_calls : List CallBody → List CallBody
all_calls bodies = clear_all ∷ bodies

-- bodies as calls, numbered from here on
abbrev pub numbered : ℕ → List CallBody → List Call
numbered number [] = []
numbered number (body ∷ later) =
    record { number = number; body = body } ∷ numbered (number + 1) later

-- Call 0 clears what the point has from before: the central system starts with no profile of it.
abbrev pub opening_outbox : OutboxState
opening_outbox = record {
  link = None;
  calls = numbered 0 (clear_all ∷ []);
  next = 1;
  is_in_flight = false;
}

-- ---- links

-- a call in flight over an older link waits again, in first place
abbrev pub attached : OutboxState → ℕ → OutboxState
attached old link = record old { link = Some link; is_in_flight = false }

abbrev pub lost : OutboxState → OutboxState
lost old = record old { link = None; is_in_flight = false }

-- ---- calls

-- no more calls may be added: it has the most unconfirmed calls
abbrev pub is_full : OutboxState → Bool
is_full outbox = nat_le max_calls (length outbox.calls)

-- no more calls may be added: the last number was drawn
abbrev pub is_exhausted : OutboxState → Bool
is_exhausted outbox = nat_lt max_number outbox.next

-- the number of the first unconfirmed call, or else of the next one
abbrev pub first_unconfirmed : OutboxState → ℕ
first_unconfirmed outbox = outbox.next - length outbox.calls

-- a new call is the last one
abbrev pub added : OutboxState → CallBody → OutboxState
added old body = record old {
  calls = old.calls ++ record { number = old.next; body = body } ∷ [];
  next = old.next + 1;
}

abbrev pub first_call : List Call → Option Call
first_call [] = None
first_call (call ∷ later) = Some call

-- the call to send: the first one, if there is a link and no call is in flight
abbrev pub sendable_by : Option ℕ → Bool → List Call → Option Call
sendable_by None is_in_flight calls = None
sendable_by (Some link) true calls = None
sendable_by (Some link) false calls = first_call calls

abbrev pub sendable : OutboxState → Option Call
sendable outbox = sendable_by outbox.link outbox.is_in_flight outbox.calls

-- the link over which it can be sent, if there is such a call
abbrev pub sending_link : OutboxState → Option ℕ
sending_link outbox = if is_some (sendable outbox) then outbox.link else None

abbrev pub sent_by : Option Call → OutboxState → OutboxState
sent_by None old = old
sent_by (Some call) old = record old { is_in_flight = true }

-- after a sending, the sent call is in flight
abbrev pub sent : OutboxState → OutboxState
sent old = sent_by (sendable old) old

-- ---- confirmations

abbrev pub is_number_of_first : List Call → ℕ → Bool
is_number_of_first [] number = false
is_number_of_first (call ∷ later) number = call.number == number

-- whether the call in flight has this number
abbrev pub is_number_in_flight : OutboxState → ℕ → Bool
is_number_in_flight outbox number = outbox.is_in_flight && is_number_of_first outbox.calls number

-- whether the call of a number is one of these
abbrev pub is_unconfirmed : List Call → ℕ → Bool
is_unconfirmed calls number = list_any (λ (call : Call). call.number == number) calls

-- The call in flight is removed, whatever the point answered. Another number confirms nothing.
abbrev pub confirmed : OutboxState → ℕ → OutboxState
confirmed old number =
    if is_number_in_flight old number
    then record old { calls = drop 1 old.calls; is_in_flight = false }
    else old

-- ---- the traffic of an outbox

-- a new link, its loss, a call that is added, a sending, and the reply to the call of a number
pub data Traffic : Type 0 where
  Attach : (link : ℕ) → Traffic
  Lose : Traffic
  Add : (body : CallBody) → Traffic
  Send : Traffic
  Confirm : (number : ℕ) → Traffic

-- the outbox after it
abbrev pub after : OutboxState → Traffic → OutboxState
after old (Attach link) = attached old link
after old Lose = lost old
after old (Add body) = added old body
after old Send = sent old
after old (Confirm number) = confirmed old number

abbrev pub after_all : OutboxState → List Traffic → OutboxState
after_all old [] = old
after_all old (event ∷ later) = after_all (after old event) later

-- ---- the invariant

-- the numbers of the calls go up by one and end before the next call's
abbrev pub AreConsecutive : OutboxState → Type 0
AreConsecutive outbox =
    map (λ (call : Call). call.number) outbox.calls
    ≡ range_with_len (outbox.next - length outbox.calls) (length outbox.calls)

pub record IsOutbox (outbox : OutboxState) : Type 0 where
  pub numbers : AreConsecutive outbox
  pub drawn : length outbox.calls ≤ outbox.next
  pub last : outbox.next ≤ max_number + 1
  pub few : length outbox.calls ≤ max_calls
  -- a call is in flight only where there is one, and over a link
  pub in_flight : outbox.is_in_flight ≡ true → IsSome outbox.link × (0 < length outbox.calls)
