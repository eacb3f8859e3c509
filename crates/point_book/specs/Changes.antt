-- The effect of an install, a clear, a start and a stop on a charge point's book, and the refusals
-- of an install. `record book { .. }` is the book with these fields changed and all others
-- unchanged.
use Rattle.std.specs.Prelude.{ℕ, ◌≡◌, ◌≢◌, ◌<◌, nat_le, ℤ, Bool, false, not, is_none, List, [], ◌∷◌, length, Option, Some, None, if◌then◌else◌}
use Rattle.std.specs.Ordering.{int_eq}
use Rattle.ocpp_scalars.specs.declared.refusal.Refusal.{Refusal}
use Rattle.ocpp_scalars.specs.declared.refusal.Refusal.TheVariants.{NoTransaction, OtherTransaction, TooManyProfiles, OutOfMemory}
use Rattle.ocpp_scalars.specs.Causes.{Cause, ◌because◌}
use Rattle.profile.specs.declared.charging_profile.Profile.{Profile}
use Rattle.profile.specs.declared.criteria.Criteria.{Criteria}
use Rattle.profile.specs.declared.row.Row.{Row}
use Rattle.profile.specs.declared.purpose.Purpose.TheVariants.{TxProfile}
use Rattle.profile.specs.Purpose.{is_tx}
use Rattle.profile.specs.Changes.{installed, cleared, without_transaction_profiles}
use Rattle.stacking.specs.Limits.{max_rows}
use Rattle.stacking.specs.Rows.{rows_begun}
use Rattle.transactions.specs.declared.begin.Begin.{Begin}
use Rattle.transactions.specs.declared.active_table.Began.{Began}
use Rattle.transactions.specs.declared.active_table.Began.TheVariants.{Fresh, Repeat}
use Rattle.transactions.specs.ActiveTable.{began, started, connector_of, stopped}
use Rattle.point_book.specs.Book.{BookState, active_on}

-- ---- SetChargingProfile (OCPP 1.6, 5.16)

-- a TxProfile at a connector without an active transaction
pub record LacksTransaction (active : Option ℤ) (profile : Profile) : Type 0 where
  pub of_transaction : profile.purpose ≡ TxProfile
  pub inactive : active ≡ None

-- a TxProfile whose transactionId isn't the active transaction's
pub record NamesAnother (active : Option ℤ) (profile : Profile) : Type 0 where
  pub of_transaction : profile.purpose ≡ TxProfile
  pub asked : ℤ
  pub running : ℤ
  pub names : profile.transaction ≡ Some asked
  pub is_active : active ≡ Some running
  pub other : asked ≢ running

-- the transactionId of the active transaction at a row's connector
abbrev pub active_for : BookState → Row → Option ℤ
active_for book row = active_on book.transactions row.connector

-- The causes for which a profile isn't installed, in the order in which they are checked. A
-- TxProfile is for the transaction that is active at its connector (3.13.1). After an install there
-- are at most as many profiles as the limit.
abbrev pub install_causes : BookState → Row → List Cause
install_causes book row =
    (NoTransaction because LacksTransaction (active_for book row) row.profile)
    ∷ (OtherTransaction because NamesAnother (active_for book row) row.profile)
    ∷ (TooManyProfiles because max_rows < length (installed book.rows row))
    ∷ []

-- whether a transactionId is present, and isn't the active transaction's
abbrev pub names_another : Option ℤ → Option ℤ → Bool
names_another None active = false
names_another (Some asked) None = false
names_another (Some asked) (Some active) = not (int_eq asked active)

-- a TxProfile is for the transaction that is active at its connector: there has to be one, and a
-- transactionId has to name it
abbrev pub transaction_refusal : Option ℤ → Profile → Option Refusal
transaction_refusal active profile =
    if not (is_tx profile.purpose) then None
    else if is_none active then Some NoTransaction
    else if names_another profile.transaction active then Some OtherTransaction
    else None

-- there are at most as many profiles as the limit after an install
abbrev pub room_refusal : List Row → Row → Option Refusal
room_refusal rows row = if nat_le (length (installed rows row)) max_rows then None else Some TooManyProfiles

abbrev pub first_cause : Option Refusal → Option Refusal → Option Refusal
first_cause None next = next
first_cause (Some cause) next = Some cause

-- the refusal of a profile: by the law `installs` the first of these causes
abbrev pub install_refusal : BookState → Row → Option Refusal
install_refusal book row =
    first_cause
    (transaction_refusal (active_on book.transactions row.connector) row.profile)
    (room_refusal book.rows row)

-- the first cause, or OutOfMemory if there is none
abbrev pub IsCause : Option Refusal → Refusal → Type 0
IsCause None refusal = refusal ≡ OutOfMemory
IsCause (Some cause) refusal = refusal ≡ cause

-- nothing has changed, and the row is returned
pub record IsRefused (old : BookState) (row : Row) (refused : Refusal × Row) (new : BookState) : Type 0 where
  pub cause : IsCause (install_refusal old row) refused.0
  pub unchanged : new ≡ old
  pub back : refused.1 ≡ row

abbrev pub book_installed : BookState → Row → BookState
book_installed book row = record book { rows = installed book.rows row }

-- ---- ClearChargingProfile (OCPP 1.6, 5.5)

abbrev pub book_cleared : BookState → Criteria → BookState
book_cleared book criteria = record book { rows = cleared book.rows criteria }

-- ---- StartTransaction (OCPP 1.6, 4.8)

-- A new transaction ends the previous one at its connector, and with it that one's TxProfiles
-- (3.13). It may begin with a profile of its own (5.11), which is installed then.
abbrev pub rows_started : List Row → ℕ → Begin → ℤ → Option Profile → List Row
rows_started rows connector begin id profile =
    rows_begun rows connector begin.timestamp id profile

abbrev pub rows_after_start : Began → List Row → ℕ → Begin → ℤ → Option Profile → List Row
rows_after_start Fresh rows connector begin id profile =
    rows_started rows connector begin id profile
rows_after_start (Repeat other) rows connector begin id profile = rows

abbrev pub book_started : BookState → ℕ → Begin → ℤ → Option Profile → BookState
book_started book connector begin id profile = record book {
  rows = rows_after_start (began book.transactions connector begin)
      book.rows connector begin id profile;
  transactions = started book.transactions connector begin id;
}

-- memory ran out: nothing has changed, and the StartTransaction is returned with its profile
pub record IsStartRefused (old : BookState) (begin : Begin) (profile : Option Profile)
    (refused : Refusal × Begin × Option Profile) (new : BookState)
    : Type 0 where
  pub cause : refused.0 ≡ OutOfMemory
  pub unchanged : new ≡ old
  pub begin_back : refused.1 ≡ begin
  pub profile_back : refused.2 ≡ profile

-- ---- StopTransaction (OCPP 1.6, 4.10)

-- the TxProfiles of a transaction end with it (3.13)
abbrev pub rows_after_stop : Option ℕ → List Row → List Row
rows_after_stop None rows = rows
rows_after_stop (Some connector) rows = without_transaction_profiles rows connector

abbrev pub book_stopped : BookState → ℤ → BookState
book_stopped book id = record book {
  rows = rows_after_stop (connector_of book.transactions id) book.rows;
  transactions = stopped book.transactions id;
}
