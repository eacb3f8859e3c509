-- For private clauses: the rows that wait for their next places.
use Rattle.std.specs.Prelude.{◌≡◌, ℕ, ◌≤◌, List, [], Option, Some, None}
use Rattle.std.specs.List.{AllByRecursion, Contains}
pub use Rattle.sweep_compiler.specs.declared.queue.Due.{Due}

-- the earliest instant at which a row is due
pub record IsSoonestOf (items : List Due) (instant : ℕ) : Type 0 where
  pub item : Due
  pub waits : Contains items item
  pub at : item.instant ≡ instant
  pub least : AllByRecursion (λ (other : Due). instant ≤ other.instant) items

abbrev pub IsSoonest : List Due → Option ℕ → Type 0
IsSoonest items None = items ≡ []
IsSoonest items (Some instant) = IsSoonestOf items instant
