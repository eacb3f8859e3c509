-- A point that obeys its calls stays in step, whatever is lost or sent again. The profiles that
-- outlast its transactions are those that the central system has for it.
use Rattle.std.specs.Prelude.{ℕ, ℤ, ◌≡◌, Bool, true, not, ◌&&◌, List, [], ◌∷◌, filter, map, Option, None, Some, is_some, is_none, zero, suc, slice_get, if◌then◌else◌}
use Rattle.std.specs.List.{AllByRecursion, filter_map, list_any}
use Rattle.std.specs.Ordering.{int_eq}
use Rattle.profile.specs.declared.criteria.Criteria.{Criteria}
use Rattle.profile.specs.declared.row.Row.{Row}
use Rattle.profile.specs.Changes.{is_met}
use Rattle.profile.specs.Purpose.{is_tx}
use Rattle.messages.specs.declared.call.CallBody.{CallBody}
use Rattle.site_core.specs.Outbox.{all_calls}
use Rattle.site_core.specs.ChargePoint.{Deed, Installs, Clears, Starts, rows_after, call_of, rows_by_call}
use Rattle.site_core.specs.OutboxOrder.{AreInSendingOrder}

-- ---- the central system

-- the rows that the central system has for a point, from these rows on, after the deeds up to the
-- one that makes the call of this number
abbrev pub rows_after_call : ℕ → List Deed → List Row → List Row
rows_after_call zero deeds rows = rows
rows_after_call (suc before) [] rows = rows
rows_after_call (suc before) (deed ∷ later) rows =
    rows_after_call (if is_some (call_of deed) then before else suc before) later
    (rows_after rows deed)

-- every call to the point: call 0, and then those that the deeds make
abbrev pub calls_of : List Deed → List CallBody
calls_of deeds = all_calls (filter_map call_of deeds)

-- ---- the point

-- the point obeys the call of this number, at a moment of its own
pub record Obeying : Type 0 where
  pub number : ℕ
  pub moment : ℕ

-- the rows of the point after it obeys a call at a moment; without a call they stay
abbrev pub obeyed_call : ℕ → Option CallBody → List Row → List Row
obeyed_call moment None rows = rows
obeyed_call moment (Some body) rows = rows_by_call moment body rows

-- the rows of the point after it obeys some of these calls in turn, from these rows on
abbrev pub obeyed : List CallBody → List Obeying → List Row → List Row
obeyed calls [] rows = rows
obeyed calls (first ∷ later) rows =
    obeyed calls later (obeyed_call first.moment (slice_get calls first.number) rows)

abbrev pub numbers_of : List Obeying → List ℕ
numbers_of obeyings = map (λ (obeying : Obeying). obeying.number) obeyings

-- the number of the last of the calls that are obeyed, this one being that of the first
abbrev pub last_number : ℕ → List Obeying → ℕ
last_number number [] = number
last_number number (obeying ∷ later) = last_number obeying.number later

-- ---- the profiles that may differ

-- A transaction that begins with a TxProfile of its own (OCPP 1.6, 5.11) removes every other
-- profile of that chargingProfileId, which the point may do at another time. So this id is exempt
-- from then on. It is settled by an install of a profile with it, and by a clear of all profiles
-- with it: once the point obeys that call, both have the same ones.

-- whether a clear leaves no profile of an id, since it asks for nothing else
abbrev pub clears_all_of : Criteria → ℤ → Bool
clears_all_of criteria id =
    is_met (int_eq id) criteria.id
    && is_none criteria.connector && is_none criteria.purpose && is_none criteria.stack_level

-- the exempt ids after a deed
abbrev pub exempt_after : List ℤ → Deed → List ℤ
exempt_after ids (Starts connector begin number (Some profile)) = profile.id ∷ ids
exempt_after ids (Installs row) = filter (λ id. not (int_eq id row.profile.id)) ids
exempt_after ids (Clears criteria) = filter (λ id. not (clears_all_of criteria id)) ids
exempt_after ids deed = ids

-- the exempt ids, from these on, after the deeds up to the one that makes the call of this number
abbrev pub exempt_after_call : ℕ → List Deed → List ℤ → List ℤ
exempt_after_call zero deeds ids = ids
exempt_after_call (suc before) [] ids = ids
exempt_after_call (suc before) (deed ∷ later) ids =
    exempt_after_call (if is_some (call_of deed) then before else suc before) later
    (exempt_after ids deed)

-- ---- the rows that are compared

abbrev pub at_moment : ℕ → Row → Row
at_moment moment row = record row { moment = moment }

-- whether a profile outlasts transactions, and has none of these ids
abbrev pub lasts_but : List ℤ → Row → Bool
lasts_but ids row = not (list_any (int_eq row.profile.id) ids) && not (is_tx row.profile.purpose)

-- The profiles that outlast transactions, but for those of these ids. Their moments are left out:
-- the point installs later than the central system.
abbrev pub lasting_but : List ℤ → List Row → List Row
lasting_but ids rows = map (at_moment 0) (filter (lasts_but ids) rows)

-- a point's own rows and those of the central system have the same such profiles
abbrev pub AreInStepBut : List ℤ → List Row → List Row → Type 0
AreInStepBut ids own central = lasting_but ids own ≡ lasting_but ids central

-- ---- the law

-- A transaction begins without a profile of its own, or with a TxProfile. Each one of the machine
-- does: a remote start with another profile is refused.
abbrev pub BeginsWithTxProfile : Deed → Type 0
BeginsWithTxProfile (Starts connector begin number (Some profile)) = is_tx profile.purpose ≡ true
BeginsWithTxProfile deed = Unit {0}

-- A point with any rows obeys calls in the order of sending. Its lasting rows are then those that
-- the central system, which began with none, had after the last of these calls, but for the ids
-- that are exempt then. Where no transaction began with a profile of its own, there are none.
abbrev pub StaysInStep : Type 0
StaysInStep =
    (deeds : List Deed) (first : Obeying) (later : List Obeying) (rows : List Row)
    → AllByRecursion BeginsWithTxProfile deeds
    → AreInSendingOrder (numbers_of (first ∷ later))
    → AreInStepBut (exempt_after_call (last_number first.number later) deeds [])
    (obeyed (calls_of deeds) (first ∷ later) rows)
    (rows_after_call (last_number first.number later) deeds [])
