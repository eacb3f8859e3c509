-- The book of a charge point, and its invariant.
use Rattle.std.specs.Prelude.{ℕ, ◌<◌, ◌≤◌, ◌^◌, ◌≡◌, ℤ, true, List, [], length, replicate, Option, None, option_map, IsSome}
use Rattle.std.specs.List.{AllByRecursion}
use Rattle.profile.specs.declared.row.Row.{Row}
use Rattle.profile.specs.Purpose.{is_tx}
use Rattle.transactions.specs.declared.transaction.Transaction.{Transaction}
use Rattle.transactions.specs.ActiveTable.{active_at, starts}
use Rattle.meaning.specs.View.{PointState}

pub record BookState : Type 0 where
  -- the point's ceiling, in tenths
  pub ceiling : ℕ
  -- the ceilings of connectors 1, 2, ..
  pub ceilings : List ℕ
  -- the installed profiles, in the order of their installs
  pub rows : List Row
  -- the slots of connectors 1, 2, .., each with the active transaction, if there is one
  pub transactions : List (Option Transaction)

-- the book of a point with no profile and no active transaction
abbrev pub empty_book : ℕ → List ℕ → BookState
empty_book ceiling ceilings = record {
  ceiling = ceiling;
  ceilings = ceilings;
  rows = [];
  transactions = replicate (length ceilings) None;
}

-- the state from which limits are computed
abbrev pub state_of : BookState → PointState
state_of book = record {
  ceiling = book.ceiling;
  ceilings = book.ceilings;
  starts = starts book.transactions;
  rows = book.rows;
}

-- the transactionId of the active transaction at a connector
abbrev pub active_on : List (Option Transaction) → ℕ → Option ℤ
active_on slots connector = option_map (λ (active : Transaction). active.id) (active_at slots connector)

-- A profile is at connector 0 or at one that the point has, and a TxProfile only where a
-- transaction is active (OCPP 1.6, 3.13 and 5.16).
pub record MayStand (slots : List (Option Transaction)) (row : Row) : Type 0 where
  pub has_connector : row.connector ≤ length slots
  pub in_transaction : is_tx row.profile.purpose ≡ true → IsSome (active_on slots row.connector)

-- the invariant of a book: it has a slot for each connector, connectors have 32-bit numbers, and
-- each profile may be where it is
pub record IsBook (book : BookState) : Type 0 where
  pub few : length book.ceilings < 2 ^ 32
  pub slots : length book.transactions ≡ length book.ceilings
  pub rows : AllByRecursion (MayStand book.transactions) book.rows
