-- A point obeys calls in sending order: a list stays in sending order if each number that is removed
-- has another sending that stays.
use Rattle.std.proofs.Common.{◌≡◌, ℕ, ◌+◌, ◌<◌, ◌≤◌, ◌==◌, zero, suc, Bool, true, false, cond, ◌⊎◌, inl, inr, refl, sym, ◌∙◌, ap, subst, List, [], ◌∷◌, ◌++◌, length, slice_index_or, Option, None, Some, arith}
use Rattle.std.specs.List.{AllByRecursion}
use Rattle.messages.specs.declared.call.Call.{Call}
use Rattle.site_core.specs.Outbox.{OutboxState, opening_outbox, Traffic, Attach, Lose, Add, Send, Confirm}
use Rattle.site_core.specs.OutboxOrder.{GoesOn, AreInSendingOrder, numbers_sent, calls_confirmed, AreFrom}
use Rattle.site_core.specs.ObeyOrder.{obeyed_numbers, IsObeyed, AreObeyedInOrder}
use Rattle.site_core.proofs.OutboxOrderLemmas.{outbox, from_push, sent_in_order}

-- ---- numbers

-- a number is among others
abbrev Has : List ℕ → ℕ → Type 0
Has [] number = ⊥
Has (first ∷ later) number = (first ≡ number) ⊎ Has later number

has : (numbers : List ℕ) (number place : ℕ) → place < length numbers
    → slice_index_or numbers place number ≡ number → Has numbers number
has [] number place below at = absurd (omega arith)
has (first ∷ later) number zero below at = inl at
has (first ∷ later) number (suc place) below at = inr (has later number place (omega arith) at)

-- one of the numbers is above this one
abbrev IsPassed : ℕ → List ℕ → Type 0
IsPassed number [] = ⊥
IsPassed number (first ∷ later) = (number < first) ⊎ IsPassed number later

no_less : (before number : ℕ) → (number ≡ before) ⊎ (number ≡ before + 1) → before ≤ number
no_less before number (inl e) = omega arith
no_less before number (inr e) = omega arith

near : (before number : ℕ) → before ≤ number → (before + 1 < number → ⊥)
    → (number ≡ before) ⊎ (number ≡ before + 1)
near zero zero from to = inl refl
near zero (suc zero) from to = inr refl
near zero (suc (suc number)) from to = absurd (to (omega arith))
near (suc before) zero from to = absurd (omega arith)
near (suc before) (suc number) from to = by (near before number (omega arith) (λ above. to
    (omega arith)))
  where
    by : (number ≡ before) ⊎ (number ≡ before + 1)
        → (suc number ≡ suc before) ⊎ (suc number ≡ suc before + 1)
    by (inl e) = inl (ap suc e)
    by (inr e) = inr (omega arith)

none_below : (number : ℕ) → (0 < number → ⊥) → number ≡ 0
none_below zero never = refl
none_below (suc number) never = absurd (never (omega arith))

first_or_later : (first number : ℕ) → first ≤ number → (number ≡ first) ⊎ (first + 1 ≤ number)
first_or_later zero zero from = inl refl
first_or_later zero (suc number) from = inr (omega arith)
first_or_later (suc first) zero from = absurd (omega arith)
first_or_later (suc first) (suc number) from = by (first_or_later first number (omega arith))
  where
    by : (number ≡ first) ⊎ (first + 1 ≤ number)
        → (suc number ≡ suc first) ⊎ (suc first + 1 ≤ suc number)
    by (inl e) = inl (ap suc e)
    by (inr above) = inr (omega arith)

-- ---- numbers in sending order

-- later numbers are no less
too_low : (are_obeyed : List Bool) (sent : List ℕ) (before number : ℕ) → GoesOn before sent
    → number < before → Has (obeyed_numbers are_obeyed sent) number → ⊥
too_low [] sent before number goes low here = here
too_low (is_obeyed ∷ later) [] before number goes low here = here
too_low (true ∷ later) (first ∷ sent) before number goes low (inl e) = let least =
    no_less before first goes.0 in omega arith
too_low (true ∷ later) (first ∷ sent) before number goes low (inr there) =
    let least = no_less before first goes.0 in too_low later sent first number goes.1
    (omega arith) there
too_low (false ∷ later) (first ∷ sent) before number goes low there =
    let least = no_less before first goes.0 in too_low later sent first number goes.1
    (omega arith) there

-- after the last number that was obeyed, and the last that was sent
goes_on : (are_obeyed : List Bool) (sent : List ℕ) (before last : ℕ) → last ≤ before
    → GoesOn before sent
    → ((number : ℕ) → last < number → IsPassed number sent
    → Has (obeyed_numbers are_obeyed sent) number)
    → GoesOn last (obeyed_numbers are_obeyed sent)
goes_on [] sent before last from goes each = tt
goes_on (is_obeyed ∷ later) [] before last from goes each = tt
goes_on (false ∷ later) (first ∷ sent) before last from goes each =
    let least = no_less before first goes.0 in
    goes_on later sent first last (omega arith) goes.1 (λ number above passed. each number above
    (inr passed))
goes_on (true ∷ later) (first ∷ sent) before last from goes each =
    let least = no_less before first goes.0 in (
      near last first (omega arith) (λ above. skipped above (each (last + 1) (omega arith)
          (inl above))),
      goes_on later sent first first (omega arith) goes.1
          (λ number above passed. other number above (each number (omega arith) (inr passed))),
    )
  where
    skipped : last + 1 < first → (first ≡ last + 1) ⊎ Has (obeyed_numbers later sent) (last + 1) → ⊥
    skipped above (inl e) = omega arith
    skipped above (inr there) = too_low later sent first (last + 1) goes.1 above there

    other : (number : ℕ) → first < number → (first ≡ number) ⊎ Has
        (obeyed_numbers later sent) number → Has (obeyed_numbers later sent) number
    other number above (inl e) = absurd (omega arith)
    other number above (inr there) = there

-- before any number was obeyed
begins : (are_obeyed : List Bool) (sent : List ℕ) (before : ℕ) → GoesOn before sent
    → ((number : ℕ) → IsPassed number sent → Has (obeyed_numbers are_obeyed sent) number)
    → AreInSendingOrder (obeyed_numbers are_obeyed sent)
begins [] sent before goes each = tt
begins (is_obeyed ∷ later) [] before goes each = tt
begins (false ∷ later) (first ∷ sent) before goes each = begins later sent first goes.1
    (λ number passed. each number (inr passed))
begins (true ∷ later) (first ∷ sent) before goes each = (
  none_below first (λ above. skipped above (each 0 (inl above))),
  goes_on later sent first first (omega arith) goes.1 (λ number above passed. other number above
      (each number (inr passed))),
)
  where
    skipped : 0 < first → (first ≡ 0) ⊎ Has (obeyed_numbers later sent) 0 → ⊥
    skipped above (inl e) = omega arith
    skipped above (inr there) = too_low later sent first 0 goes.1 above there

    other : (number : ℕ) → first < number → (first ≡ number) ⊎ Has
        (obeyed_numbers later sent) number → Has (obeyed_numbers later sent) number
    other number above (inl e) = absurd (omega arith)
    other number above (inr there) = there

keeps_order : (are_obeyed : List Bool) (sent : List ℕ) → AreInSendingOrder sent
    → ((number : ℕ) → IsPassed number sent → Has (obeyed_numbers are_obeyed sent) number)
    → AreInSendingOrder (obeyed_numbers are_obeyed sent)
keeps_order [] sent order each = tt
keeps_order (is_obeyed ∷ later) [] order each = tt
keeps_order (is_obeyed ∷ later) (first ∷ sent) order each = begins (is_obeyed ∷ later)
    (first ∷ sent) first (inl refl, order.1) each

-- ---- confirmations

-- a call of this number is among others
abbrev HasCall : List Call → ℕ → Type 0
HasCall [] number = ⊥
HasCall (call ∷ later) number = (call.number ≡ number) ⊎ HasCall later number

-- a call passed by the sending of a later one is confirmed
passed_confirmed : (traffic : List Traffic) (link : Option ℕ) (calls : List Call) (next : ℕ)
    (is_in_flight : Bool) (first number : ℕ)
    → AreFrom first calls next → first ≤ number
    → IsPassed number (numbers_sent (outbox link calls next is_in_flight) traffic)
    → HasCall (calls_confirmed (outbox link calls next is_in_flight) traffic) number
passed_confirmed [] link calls next is_in_flight first number are from passed = passed
passed_confirmed (Attach other ∷ later) link calls next is_in_flight first number are from passed =
    passed_confirmed later (Some other) calls next false first number are from passed
passed_confirmed (Lose ∷ later) link calls next is_in_flight first number are from passed =
    passed_confirmed later None calls next false first number are from passed
passed_confirmed (Add body ∷ later) link calls next is_in_flight first number are from passed =
    passed_confirmed later link (calls ++ record {
      number = next;
      body =
          body;
    } ∷ []) (next + 1) is_in_flight first number
    (from_push first calls next body are) from passed
passed_confirmed (Send ∷ later) None calls next is_in_flight first number are from passed =
    passed_confirmed later None calls next is_in_flight first number are from passed
passed_confirmed (Send ∷ later) (Some link) calls next true first number are from passed =
    passed_confirmed later (Some link) calls next true first number are from passed
passed_confirmed (Send ∷ later) (Some link) [] next false first number are from passed =
    passed_confirmed later (Some link) [] next false first number are from passed
passed_confirmed (Send ∷ later) (Some link) (call ∷ calls) next false first number are from
    (inl above) =
    let at : call.number ≡ first = are.0 in absurd (omega arith)
passed_confirmed (Send ∷ later) (Some link) (call ∷ calls) next false first number are from
    (inr passed) =
    passed_confirmed later (Some link) (call ∷ calls) next true first number are from passed
passed_confirmed (Confirm other ∷ later) link calls next false first number are from passed =
    passed_confirmed later link calls next false first number are from passed
passed_confirmed (Confirm other ∷ later) link [] next true first number are from passed =
    passed_confirmed later link [] next true first number are from passed
passed_confirmed (Confirm other ∷ later) link
    (call ∷ calls) next true first number are from passed =
    go (call.number == other) passed
    (λ (above : first + 1 ≤ number). passed_confirmed later link calls next false
    (first + 1) number are.1 above)
    (passed_confirmed later link (call ∷ calls) next true first number are from)
  where
    gone : OutboxState
    gone = outbox link calls next false

    kept : OutboxState
    kept = outbox link (call ∷ calls) next true

    by : (number ≡ first) ⊎ (first + 1 ≤ number) → IsPassed number (numbers_sent gone later)
        → (first + 1 ≤ number → IsPassed number (numbers_sent gone later)
        → HasCall (calls_confirmed gone later) number)
        → (call.number ≡ number) ⊎ HasCall (calls_confirmed gone later) number
    by (inl e) rest next_one = inl (are.0 ∙ sym e)
    by (inr above) rest next_one = inr (next_one above rest)

    go : (b : Bool)
        → IsPassed number (numbers_sent (cond b gone kept) later)
        → (first + 1 ≤ number → IsPassed number (numbers_sent gone later)
        → HasCall (calls_confirmed gone later) number)
        → (IsPassed number (numbers_sent kept later) → HasCall (calls_confirmed kept later) number)
        → HasCall (cond b (call ∷ []) [] ++ calls_confirmed (cond b gone kept) later) number
    go true rest next_one same = by (first_or_later first number from) rest next_one
    go false rest next_one same = same rest

confirmed_obeyed : (obeyed : List ℕ) (calls : List Call) (number : ℕ)
    → AllByRecursion (IsObeyed obeyed) calls → HasCall calls number → Has obeyed number
confirmed_obeyed obeyed [] number each here = absurd here
confirmed_obeyed obeyed (call ∷ later) number each (inl e) =
    subst (λ (n : ℕ). Has obeyed n) e (has obeyed call.number each.0.0 each.0.1 each.0.2)
confirmed_obeyed obeyed (call ∷ later) number each (inr there) =
    confirmed_obeyed obeyed later number each.1 there

pub obeyed_in_order : AreObeyedInOrder
obeyed_in_order traffic are_obeyed each =
    keeps_order are_obeyed (numbers_sent opening_outbox traffic) (sent_in_order traffic)
    (λ number passed. confirmed_obeyed _ (calls_confirmed opening_outbox traffic) number each
    (passed_confirmed traffic None _ 1 false 0 number (refl, refl) (omega arith) passed))
