-- The order in which the calls of a point are sent, whatever sendings, replies and links are lost.
use Rattle.std.specs.Prelude.{ℕ, ◌+◌, ◌≡◌, ◌⊎◌, List, [], ◌∷◌, ◌++◌, Option, None, Some, take, if◌then◌else◌}
use Rattle.messages.specs.declared.call.Call.{Call}
use Rattle.messages.specs.declared.call.CallBody.{CallBody}
use Rattle.site_core.specs.Outbox.{OutboxState, opening_outbox, sendable, is_number_in_flight, numbered, all_calls, Traffic, Add, Send, Confirm, after, after_all}

-- ---- numbers

-- each number equals the one before it or is one more
abbrev pub GoesOn : ℕ → List ℕ → Type 0
GoesOn before [] = Unit {0}
GoesOn before (number ∷ later) = ((number ≡ before) ⊎ (number ≡ before + 1)) × GoesOn number later

-- The order of sending: call 0 is the first, and a call may be sent again before the next one. So
-- no call is left out, and no older one comes after a newer one.
abbrev pub AreInSendingOrder : List ℕ → Type 0
AreInSendingOrder [] = Unit {0}
AreInSendingOrder (number ∷ later) = (number ≡ 0) × GoesOn number later

-- calls of consecutive numbers, from this one to the one before the next
abbrev pub AreFrom : ℕ → List Call → ℕ → Type 0
AreFrom first [] next = first ≡ next
AreFrom first (call ∷ later) next = (call.number ≡ first) × AreFrom (first + 1) later next

-- ---- the sendings and confirmations of an outbox

abbrev pub number_of : Option Call → List ℕ
number_of None = []
number_of (Some call) = call.number ∷ []

abbrev pub sent_at : OutboxState → Traffic → List ℕ
sent_at old Send = number_of (sendable old)
sent_at old other = []

-- the numbers of the calls that are sent, in the order of their sendings
abbrev pub numbers_sent : OutboxState → List Traffic → List ℕ
numbers_sent old [] = []
numbers_sent old (event ∷ later) = sent_at old event ++ numbers_sent (after old event) later

abbrev pub confirmed_at : OutboxState → Traffic → List Call
confirmed_at old (Confirm number) = if is_number_in_flight old number then take 1 old.calls else []
confirmed_at old other = []

-- the calls that are confirmed, in the order of their confirmations
abbrev pub calls_confirmed : OutboxState → List Traffic → List Call
calls_confirmed old [] = []
calls_confirmed old (event ∷ later) =
    confirmed_at old event ++ calls_confirmed (after old event) later

abbrev pub added_at : Traffic → List CallBody
added_at (Add body) = body ∷ []
added_at other = []

abbrev pub bodies_added : List Traffic → List CallBody
bodies_added [] = []
bodies_added (event ∷ later) = added_at event ++ bodies_added later

-- every call so far, by its number: those that were added come after call 0
abbrev pub calls_so_far : List Traffic → List Call
calls_so_far traffic = numbered 0 (all_calls (bodies_added traffic))

-- ---- the laws

-- calls are sent in order
abbrev pub AreSentInOrder : Type 0
AreSentInOrder = (traffic : List Traffic) → AreInSendingOrder (numbers_sent opening_outbox traffic)

-- the calls of an outbox are all calls without the confirmed ones, which were confirmed in order
abbrev pub AreLeftUnlessConfirmed : Type 0
AreLeftUnlessConfirmed =
    (traffic : List Traffic)
    → calls_confirmed opening_outbox traffic ++ (after_all opening_outbox traffic).calls
    ≡ calls_so_far traffic
