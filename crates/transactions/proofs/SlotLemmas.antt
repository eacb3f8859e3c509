-- The invariant of a table's slots holds for empty slots, and after a change of one slot.
use Rattle.std.proofs.Common.{◌≡◌, ℕ, ◌<◌, ◌^◌, zero, suc, refl, List, ◌∷◌, map, replicate, Option, None, set, ap, sym, ◌∙◌}
use Rattle.std.proofs.lemmas.List.{map-set, length-set, length-replicate}
use Rattle.transactions.specs.declared.transaction.Transaction.{Transaction}
use Rattle.transactions.specs.ActiveTable.{AreSlots, start_of, starts}

pub slots-set : (slots : List (Option Transaction)) (kept : List (Option ℕ)) (place : ℕ) (slot : Option Transaction) → AreSlots slots kept → AreSlots (set slots place slot) (set kept place (start_of slot))
slots-set slots kept place slot are = record {
  kept_starts = ap (λ starts. set starts place (start_of slot)) are.kept_starts ∙ sym (map-set start_of slots place slot);
  few = rw (length-set slots place slot) are.few;
}

starts-replicate : (count : ℕ) → replicate count None ≡ starts (replicate count None)
starts-replicate zero = refl
starts-replicate (suc count) = ap (λ (rest : List (Option ℕ)). None ∷ rest) (starts-replicate count)

pub slots-empty : (count : ℕ) → count < 2 ^ 32 → AreSlots (replicate count None) (replicate count None)
slots-empty count few = record {
  kept_starts = starts-replicate count;
  few = let none : Option Transaction = None in rw (length-replicate count none) few;
}
