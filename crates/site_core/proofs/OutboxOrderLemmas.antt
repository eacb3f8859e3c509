-- Calls are sent and confirmed in order, along any traffic.
use Rattle.std.proofs.Common.{◌≡◌, ℕ, suc, ◌+◌, ◌==◌, Bool, true, false, cond, ◌⊎◌, inl, inr, refl, sym, ◌∙◌, ap, List, [], ◌∷◌, ◌++◌, length, Option, None, Some, append-nil, append_assoc, add-zero, subst, arith}
use Rattle.messages.specs.declared.call.Call.{Call}
use Rattle.messages.specs.declared.call.CallBody.{CallBody}
use Rattle.site_core.specs.Outbox.{OutboxState, numbered, Traffic, Attach, Lose, Add, Send, Confirm, after_all}
use Rattle.site_core.specs.OutboxOrder.{AreFrom, GoesOn, AreInSendingOrder, AreSentInOrder, AreLeftUnlessConfirmed, numbers_sent, calls_confirmed, bodies_added}

abbrev pub outbox : Option ℕ → List Call → ℕ → Bool → OutboxState
outbox link calls next is_in_flight = record {
  link = link;
  calls = calls;
  next =
      next;
  is_in_flight = is_in_flight;
}

pub from_push : (first : ℕ) (calls : List Call) (next : ℕ) (body : CallBody)
    → AreFrom first calls next
    → AreFrom first (calls ++ record { number = next; body = body } ∷ []) (next + 1)
from_push first [] next body at = (sym at, ap (λ (n : ℕ). n + 1) at)
from_push first (call ∷ later) next body are = (are.0, from_push (first + 1) later next body are.1)

-- ---- the order of sendings

-- after the sending of a call, that call or the next one is the first
pub goes_on : (traffic : List Traffic) (link : Option ℕ) (calls : List Call) (next : ℕ)
    (is_in_flight : Bool) (last first : ℕ)
    → AreFrom first calls next → (first ≡ last) ⊎ (first ≡ last + 1) → (is_in_flight ≡ true
    → first ≡ last)
    → GoesOn last (numbers_sent (outbox link calls next is_in_flight) traffic)
goes_on [] link calls next is_in_flight last first are near flies = tt
goes_on (Attach number ∷ later) link calls next is_in_flight last first are near flies =
    goes_on later (Some number) calls next false last first are near (λ is. cc)
goes_on (Lose ∷ later) link calls next is_in_flight last first are near flies =
    goes_on later None calls next false last first are near (λ is. cc)
goes_on (Add body ∷ later) link calls next is_in_flight last first are near flies =
    goes_on later link (calls ++ record {
      number = next;
      body =
          body;
    } ∷ []) (next + 1) is_in_flight last first
    (from_push first calls next body are) near flies
goes_on (Send ∷ later) None calls next is_in_flight last first are near flies =
    goes_on later None calls next is_in_flight last first are near flies
goes_on (Send ∷ later) (Some link) calls next true last first are near flies =
    goes_on later (Some link) calls next true last first are near flies
goes_on (Send ∷ later) (Some link) [] next false last first are near flies =
    goes_on later (Some link) [] next false last first are near flies
goes_on (Send ∷ later) (Some link) (call ∷ calls) next false last first are near flies = (
  subst (λ (n : ℕ). (n ≡ last) ⊎ (n ≡ last + 1)) (sym are.0) near,
  goes_on later (Some link) (call ∷ calls) next true call.number first are (inl (sym are.0))
      (λ is. sym are.0),
)
goes_on (Confirm number ∷ later) link calls next false last first are near flies =
    goes_on later link calls next false last first are near flies
goes_on (Confirm number ∷ later) link [] next true last first are near flies =
    goes_on later link [] next true last first are near flies
goes_on (Confirm number ∷ later) link (call ∷ calls) next true last first are near flies =
    go (call.number == number)
    (goes_on later link calls next false last (first + 1) are.1 (inr (ap (λ (n : ℕ). n + 1)
    (flies refl))) (λ is. cc))
    (goes_on later link (call ∷ calls) next true last first are near flies)
  where
    go : (b : Bool) → GoesOn last (numbers_sent (outbox link calls next false) later)
        → GoesOn last (numbers_sent (outbox link (call ∷ calls) next true) later)
        → GoesOn last (numbers_sent (cond b (outbox link calls next false) (outbox link
        (call ∷ calls) next true)) later)
    go true gone kept = gone
    go false gone kept = kept

-- before any sending, call 0 is the first
begins : (traffic : List Traffic) (link : Option ℕ) (calls : List Call) (next : ℕ)
    → AreFrom 0 calls next
    → AreInSendingOrder (numbers_sent (outbox link calls next false) traffic)
begins [] link calls next are = tt
begins (Attach number ∷ later) link calls next are = begins later (Some number) calls next are
begins (Lose ∷ later) link calls next are = begins later None calls next are
begins (Add body ∷ later) link calls next are =
    begins later link (calls ++ record { number = next; body = body } ∷ []) (next + 1)
    (from_push 0 calls next body are)
begins (Send ∷ later) None calls next are = begins later None calls next are
begins (Send ∷ later) (Some link) [] next are = begins later (Some link) [] next are
begins (Send ∷ later) (Some link) (call ∷ calls) next are = (
  are.0,
  goes_on later (Some link) (call ∷ calls) next true call.number 0 are (inl (sym are.0))
      (λ is. sym are.0),
)
begins (Confirm number ∷ later) link calls next are = begins later link calls next are

pub sent_in_order : AreSentInOrder
sent_in_order traffic = begins traffic None _ 1 (refl, refl)

-- ---- the numbers of the calls

-- the calls of an outbox after all traffic have consecutive numbers from this one on
abbrev AreFromAfter : ℕ → OutboxState → List Traffic → Type 0
AreFromAfter first old traffic = AreFrom first (after_all old traffic).calls (after_all old traffic).next

-- after any traffic they have, and begin later by the number of confirmed calls
pub numbered_along : (traffic : List Traffic) (link : Option ℕ) (calls : List Call) (next : ℕ)
    (is_in_flight : Bool) (first : ℕ) → AreFrom first calls next
    → AreFromAfter (first + length (calls_confirmed (outbox link calls next is_in_flight) traffic))
    (outbox link calls next is_in_flight) traffic
numbered_along [] link calls next is_in_flight first are =
    subst (λ (n : ℕ). AreFrom n calls next) (sym (add-zero first)) are
numbered_along (Attach number ∷ later) link calls next is_in_flight first are =
    numbered_along later (Some number) calls next false first are
numbered_along (Lose ∷ later) link calls next is_in_flight first are =
    numbered_along later None calls next false first are
numbered_along (Add body ∷ later) link calls next is_in_flight first are =
    numbered_along later link (calls ++ record { number = next; body = body } ∷ []) (next + 1)
    is_in_flight first (from_push first calls next body are)
numbered_along (Send ∷ later) None calls next is_in_flight first are =
    numbered_along later None calls next is_in_flight first are
numbered_along (Send ∷ later) (Some link) calls next true first are =
    numbered_along later (Some link) calls next true first are
numbered_along (Send ∷ later) (Some link) [] next false first are =
    numbered_along later (Some link) [] next false first are
numbered_along (Send ∷ later) (Some link) (call ∷ calls) next false first are =
    numbered_along later (Some link) (call ∷ calls) next true first are
numbered_along (Confirm number ∷ later) link calls next false first are =
    numbered_along later link calls next false first are
numbered_along (Confirm number ∷ later) link [] next true first are =
    numbered_along later link [] next true first are
numbered_along (Confirm number ∷ later) link (call ∷ calls) next true first are =
    go (call.number == number)
    (numbered_along later link calls next false (first + 1) are.1)
    (numbered_along later link (call ∷ calls) next true first are)
  where
    gone : OutboxState
    gone = outbox link calls next false

    kept : OutboxState
    kept = outbox link (call ∷ calls) next true

    many : ℕ
    many = length (calls_confirmed gone later)

    go : (b : Bool)
        → AreFromAfter ((first + 1) + many) gone later
        → AreFromAfter (first + length (calls_confirmed kept later)) kept later
        → AreFromAfter (first + length (cond b (call ∷ []) [] ++ calls_confirmed
        (cond b gone kept) later)) (cond b gone kept) later
    go true is other =
        let one_more : (first + 1) + many ≡ first + suc many = omega arith in
        subst (λ (n : ℕ). AreFromAfter n gone later) one_more is
    go false other is = is

-- ---- the calls that are left

-- the confirmed calls and those that are left are those from before and the added ones
pub left : (traffic : List Traffic) (link : Option ℕ) (calls : List Call) (next : ℕ)
    (is_in_flight : Bool)
    → calls_confirmed (outbox link calls next is_in_flight) traffic ++ (after_all
    (outbox link calls next is_in_flight) traffic).calls
    ≡ calls ++ numbered next (bodies_added traffic)
left [] link calls next is_in_flight = sym (append-nil calls)
left (Attach number ∷ later) link calls next is_in_flight =
    left later (Some number) calls next false
left (Lose ∷ later) link calls next is_in_flight = left later None calls next false
left (Add body ∷ later) link calls next is_in_flight =
    let call : Call = record { number = next; body = body } in
    left later link (calls ++ call ∷ []) (next + 1) is_in_flight
    ∙ append_assoc calls (call ∷ []) (numbered (next + 1) (bodies_added later))
left (Send ∷ later) None calls next is_in_flight = left later None calls next is_in_flight
left (Send ∷ later) (Some link) calls next true = left later (Some link) calls next true
left (Send ∷ later) (Some link) [] next false = left later (Some link) [] next false
left (Send ∷ later) (Some link) (call ∷ calls) next false = left later (Some link)
    (call ∷ calls) next true
left (Confirm number ∷ later) link calls next false = left later link calls next false
left (Confirm number ∷ later) link [] next true = left later link [] next true
left (Confirm number ∷ later) link (call ∷ calls) next true =
    go (call.number == number) (left later link calls next false) (left later link
    (call ∷ calls) next true)
  where
    gone : OutboxState
    gone = outbox link calls next false

    kept : OutboxState
    kept = outbox link (call ∷ calls) next true

    added : List Call
    added = numbered next (bodies_added later)

    go : (b : Bool)
        → calls_confirmed gone later ++ (after_all gone later).calls ≡ calls ++ added
        → calls_confirmed kept later ++ (after_all kept later).calls ≡ (call ∷ calls) ++ added
        → (cond b (call ∷ []) [] ++ calls_confirmed (cond b gone kept) later) ++ (after_all
        (cond b gone kept) later).calls
        ≡ (call ∷ calls) ++ added
    go true here there = ap (λ (cs : List Call). call ∷ cs) here
    go false here there = there

pub left_unless_confirmed : AreLeftUnlessConfirmed
left_unless_confirmed traffic = left traffic None _ 1 false
