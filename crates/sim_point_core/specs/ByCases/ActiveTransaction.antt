-- The numbers and meters of a point's transactions, as the code stores them. Only private clauses
-- use this.
use Rattle.std.specs.Prelude.{ℕ, zero, suc, List, map, Option, None, option_map, option_and_then, slice_get}
use Rattle.transactions.specs.declared.transaction.Transaction.{Transaction}
use Rattle.sim_point_core.specs.declared.own_book.ActiveTransaction.{ActiveTransaction}

abbrev pub running_of : Transaction → ActiveTransaction
running_of transaction = record { id = transaction.id; meter = transaction.begin.meter_start }

-- by connector, from 1 on
abbrev pub running_in : Option Transaction → Option ActiveTransaction
running_in slot = option_map running_of slot

abbrev pub slots_of : List (Option Transaction) → List (Option ActiveTransaction)
slots_of slots = map running_in slots

abbrev pub running_at : List (Option ActiveTransaction) → ℕ → Option ActiveTransaction
running_at slots zero = None
running_at slots (suc before) = option_and_then (λ slot. slot) (slice_get slots before)
