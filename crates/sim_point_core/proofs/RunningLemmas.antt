-- The stored numbers and meters are those of the transactions, whichever slot changes.
use Rattle.std.proofs.Common.{◌≡◌, ℕ, ℤ, ◌+◌, ◌-◌, zero, suc, refl, List, [], ◌∷◌, length, replicate, Option, None, Some, option_map, set, ap, sym, ◌∙◌, arith}
use Rattle.std.proofs.lemmas.List.{map-set, length-map}
use Rattle.std.specs.List.{position}
use Rattle.transactions.specs.declared.transaction.Transaction.{Transaction}
use Rattle.transactions.specs.ActiveTable.{active_at, has_id, connector_of, emptied, stopped}
use Rattle.sim_point_core.specs.declared.own_book.ActiveTransaction.{ActiveTransaction}
use Rattle.sim_point_core.specs.ByCases.ActiveTransaction.{running_of, running_in, slots_of, running_at}

pub slots-replicate : (count : ℕ) → replicate count None ≡ slots_of (replicate count None)
slots-replicate zero = refl
slots-replicate (suc count) = ap (λ (rest : List (Option ActiveTransaction)). None ∷ rest) (slots-replicate count)

pub slots-set : (slots : List (Option Transaction)) (running : List (Option ActiveTransaction)) (place : ℕ)
    (slot : Option Transaction) → running ≡ slots_of slots
    → set running place (running_in slot) ≡ slots_of (set slots place slot)
slots-set slots running place slot is =
    ap (λ (r : List (Option ActiveTransaction)). set r place (running_in slot)) is ∙ sym (map-set running_in slots place slot)

-- the value stored for a slot is that of its transaction
pub running-active : (slots : List (Option Transaction)) (connector : ℕ)
    → running_at (slots_of slots) connector ≡ option_map running_of (active_at slots connector)
running-active slots zero = refl
running-active [] (suc before) = refl
running-active (None ∷ slots) (suc zero) = refl
running-active ((Some active) ∷ slots) (suc zero) = refl
running-active (slot ∷ slots) (suc (suc before)) = running-active slots (suc before)

-- if no transaction has the number, none ends
pub nothing-stopped : (slots : List (Option Transaction)) (id : ℤ) → connector_of slots id ≡ None
    → stopped slots id ≡ slots
nothing-stopped slots id none = go (position (has_id id) slots) none
  where
    go : (place : Option ℕ) → option_map (λ place. place + 1) place ≡ None → emptied place slots ≡ slots
    go None is = refl
    go (Some place) is = absurd (cc)

-- the slot of the transaction that ends
pub one-stopped : (slots : List (Option Transaction)) (id : ℤ) (connector : ℕ) → connector_of slots id ≡ Some connector
    → stopped slots id ≡ set slots (connector - 1) None
one-stopped slots id connector is = go (position (has_id id) slots) is
  where
    go : (place : Option ℕ) → option_map (λ place. place + 1) place ≡ Some connector → emptied place slots ≡ set slots (connector - 1) None
    go None never = absurd (cc)
    go (Some place) found =
        let same : place ≡ connector - 1 = let is : place + 1 ≡ connector = cc in omega arith in
        ap (λ (p : ℕ). set slots p None) same

-- a book begins with nothing running
pub running-empty : (count : ℕ) (running : List (Option ActiveTransaction)) → running ≡ replicate count None
    → running ≡ slots_of (replicate count None)
running-empty count running is = is ∙ slots-replicate count

pub length-running : (slots : List (Option Transaction)) (running : List (Option ActiveTransaction)) → running ≡ slots_of slots
    → length running ≡ length slots
length-running slots running is = ap length is ∙ length-map slots running_in
