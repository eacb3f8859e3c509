-- The effect of a start and of a stop on the active transactions of a charge point. A list of slots
-- holds those of connectors 1, 2, ..
use Rattle.std.specs.Prelude.{ℕ, ◌+◌, ◌-◌, ◌^◌, ◌<◌, ◌≡◌, zero, suc, ℤ, Bool, false, if◌then◌else◌, List, map, length, Option, Some, None, option_map, option_and_then, slice_get, slice_set}
use Rattle.std.specs.List.{position}
use Rattle.std.specs.Ordering.{int_eq}
use Rattle.transactions.specs.declared.begin.Begin.{Begin}
use Rattle.transactions.specs.declared.transaction.Transaction.{Transaction}
use Rattle.transactions.specs.declared.active_table.Began.{Began}
use Rattle.transactions.specs.declared.active_table.Began.TheVariants.{Fresh, Repeat}
use Rattle.transactions.specs.Begin.{is_repeat}

-- the active transaction at a connector; connector 0, the whole point, never has one
abbrev pub active_at : List (Option Transaction) → ℕ → Option Transaction
active_at slots zero = None
active_at slots (suc before) = option_and_then (λ active. active) (slice_get slots before)

-- the start of the active transaction at each connector
abbrev pub start_of : Option Transaction → Option ℕ
start_of slot = option_map (λ (active : Transaction). active.begin.timestamp) slot

abbrev pub starts : List (Option Transaction) → List (Option ℕ)
starts slots = map start_of slots

-- Start (OCPP 1.6, 4.8): a retransmission of the active transaction's StartTransaction, or a new
-- transaction
abbrev pub began_beside : Option Transaction → Begin → Began
began_beside None begin = Fresh
began_beside (Some active) begin = if is_repeat begin active.begin then Repeat active.id else Fresh

abbrev pub began : List (Option Transaction) → ℕ → Begin → Began
began slots connector begin = began_beside (active_at slots connector) begin

-- a new transaction replaces the one at its connector; a retransmitted start changes nothing
abbrev pub placed : Began → List (Option Transaction) → ℕ → Transaction → List (Option Transaction)
placed Fresh slots connector transaction = slice_set slots (connector - 1) (Some transaction)
placed (Repeat id) slots connector transaction = slots

abbrev pub started : List (Option Transaction) → ℕ → Begin → ℤ → List (Option Transaction)
started slots connector begin id =
    placed (began slots connector begin) slots connector (record { id = id; begin = begin })

-- Stop (OCPP 1.6, 4.10): the transaction of this number ends, or the one at the lowest connector if
-- several have it; if none has it, nothing changes
abbrev pub has_id : ℤ → Option Transaction → Bool
has_id id None = false
has_id id (Some active) = int_eq active.id id

abbrev pub connector_of : List (Option Transaction) → ℤ → Option ℕ
connector_of slots id = option_map (λ place. place + 1) (position (has_id id) slots)

abbrev pub emptied : Option ℕ → List (Option Transaction) → List (Option Transaction)
emptied None slots = slots
emptied (Some place) slots = slice_set slots place None

abbrev pub stopped : List (Option Transaction) → ℤ → List (Option Transaction)
stopped slots id = emptied (position (has_id id) slots) slots

-- the invariant of a table: its second list has the starts of its slots, and connectors have 32-bit
-- numbers
pub record AreSlots (slots : List (Option Transaction)) (kept : List (Option ℕ)) : Type 0 where
  pub kept_starts : kept ≡ starts slots
  pub few : length slots < 2 ^ 32
