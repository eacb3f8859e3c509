-- Each change of a book keeps its invariant.
use Rattle.std.proofs.Common.{◌≡◌, ℕ, ◌+◌, ◌-◌, ◌<◌, ◌≤◌, ◌==◌, ◌^◌, ◌≢◌, nat_le, zero, suc, ℤ, Bool, true, false, not, ◌&&◌, cond, refl, sym, subst, ◌∙◌, ap, List, [], ◌∷◌, ◌++◌, length, set, filter, Option, Some, None, option_map, IsSome, arith}
use Rattle.std.specs.List.{AllByRecursion, position}
use Rattle.std.proofs.lemmas.List.{length-set, length-replicate}
use Rattle.std.proofs.lemmas.Bool.{eqb-false}
use Rattle.ocpp_scalars.specs.declared.refusal.Refusal.TheVariants.{NoTransaction}
use Rattle.profile.specs.declared.row.Row.{Row}
use Rattle.profile.specs.Purpose.{is_tx}
use Rattle.profile.specs.declared.charging_profile.Profile.{Profile}
use Rattle.profile.specs.Changes.{installed, rows_beside, is_tx_profile_at, without_transaction_profiles}
use Rattle.stacking.specs.Limits.{max_rows}
use Rattle.stacking.specs.Rows.{installed_if_room, rows_begun, transaction_row}
use Rattle.transactions.specs.declared.begin.Begin.{Begin}
use Rattle.transactions.specs.declared.transaction.Transaction.{Transaction}
use Rattle.transactions.specs.ActiveTable.{emptied, has_id}
use Rattle.point_book.specs.Book.{BookState, IsBook, MayStand, active_on, empty_book}
use Rattle.point_book.specs.Changes.{transaction_refusal, rows_after_stop, book_installed, book_stopped}

-- ---- lists

-- each element that a filter leaves has the properties of the list and of the test
all-filtered : {X : Type 0} (P Q : X → Type 0) (test : X → Bool) → ((x : X) → P x → test x ≡ true → Q x) → (xs : List X) → AllByRecursion P xs → AllByRecursion Q (filter test xs)
all-filtered P Q test each [] all = tt
all-filtered {X = X} P Q test each (x ∷ xs) all = go (test x) refl (all-filtered P Q test each xs all.1)
  where
    go : (b : Bool) → test x ≡ b → AllByRecursion Q (filter test xs) → AllByRecursion Q (cond b (x ∷ filter test xs) (filter test xs))
    go true passes rest = (each x all.0 passes, rest)
    go false fails rest = rest

all-push : {X : Type 0} (P : X → Type 0) (xs : List X) (x : X) → AllByRecursion P xs → P x → AllByRecursion P (xs ++ x ∷ [])
all-push P [] x all here = (here, tt)
all-push P (y ∷ ys) x all here = (all.0, all-push P ys x all.1 here)

-- ---- active connectors

-- a transaction that begins leaves the active connectors active
active-set_some : (slots : List (Option Transaction)) (place connector : ℕ) (transaction : Transaction)
    → IsSome (active_on slots connector) → IsSome (active_on (set slots place (Some transaction)) connector)
active-set_some [] place connector transaction active = active
active-set_some (slot ∷ slots) zero zero transaction active = active
active-set_some (slot ∷ slots) zero (suc zero) transaction active = refl
active-set_some (slot ∷ slots) zero (suc (suc before)) transaction active = active
active-set_some (slot ∷ slots) (suc place) zero transaction active = active
active-set_some (slot ∷ slots) (suc place) (suc zero) transaction active = active
active-set_some (slot ∷ slots) (suc place) (suc (suc before)) transaction active = active-set_some slots place (suc before) transaction active

-- a transaction that ends leaves those of other connectors active
active-set_none : (slots : List (Option Transaction)) (place connector : ℕ) → connector ≢ suc place
    → IsSome (active_on slots connector) → IsSome (active_on (set slots place None) connector)
active-set_none [] place connector other active = active
active-set_none (slot ∷ slots) zero zero other active = active
active-set_none (slot ∷ slots) zero (suc zero) other active = absurd (other refl)
active-set_none (slot ∷ slots) zero (suc (suc before)) other active = active
active-set_none (slot ∷ slots) (suc place) zero other active = active
active-set_none (slot ∷ slots) (suc place) (suc zero) other active = active
active-set_none (slot ∷ slots) (suc place) (suc (suc before)) other active =
    active-set_none slots place (suc before) (λ e. other (ap suc e)) active

-- ---- rows

row-started : (slots : List (Option Transaction)) (place : ℕ) (transaction : Transaction) (row : Row) → MayStand slots row → MayStand (set slots place (Some transaction)) row
row-started slots place transaction row is = record {
  has_connector = rw (length-set slots place (Some transaction)) is.has_connector;
  in_transaction = λ tx. active-set_some slots place row.connector transaction (is.in_transaction tx);
}

-- a TxProfile that remains when those of a connector are removed is at another connector
other-connector : (connector : ℕ) (row : Row) → not (is_tx_profile_at connector row) ≡ true → is_tx row.profile.purpose ≡ true → (row.connector == connector) ≡ false
other-connector connector row stays tx = go (is_tx row.profile.purpose) (row.connector == connector) tx stays
  where
    go : (a b : Bool) → a ≡ true → not (a && b) ≡ true → b ≡ false
    go true true is stays = sym stays
    go true false is stays = refl
    go false true is stays = sym is
    go false false is stays = refl

row-stopped : (slots : List (Option Transaction)) (place : ℕ) (row : Row) → MayStand slots row → not (is_tx_profile_at (place + 1) row) ≡ true → MayStand (set slots place None) row
row-stopped slots place row is stays = record {
  has_connector = rw (length-set slots place None) is.has_connector;
  in_transaction = λ tx. active-set_none slots place row.connector
      (λ e. let next : suc place ≡ place + 1 = omega arith in eqb-false _ _ (other-connector (place + 1) row stays tx) (e ∙ next))
      (is.in_transaction tx);
}

-- a profile that isn't refused for its transaction has one, if it is a TxProfile
has-transaction : (active : Option ℤ) (row : Row) → transaction_refusal active row.profile ≡ None → is_tx row.profile.purpose ≡ true → IsSome active
has-transaction (Some id) row allowed tx = refl
has-transaction None row allowed tx = go (is_tx row.profile.purpose) tx allowed
  where
    go : (b : Bool) → b ≡ true → cond (not b) None (Some NoTransaction) ≡ None → IsSome {T = ℤ} None
    go true is allowed = cc
    go false is allowed = is

-- ---- books

pub book-empty : (ceiling : ℕ) (ceilings : List ℕ) → length ceilings < 2 ^ 32 → IsBook (empty_book ceiling ceilings)
book-empty ceiling ceilings few = record {
  few = few;
  slots = length-replicate (length ceilings) None;
  rows = tt;
}

pub book-installed : (book : BookState) (row : Row) → IsBook book → row.connector ≤ length book.ceilings
    → transaction_refusal (active_on book.transactions row.connector) row.profile ≡ None → IsBook (book_installed book row)
book-installed book row is has allowed = record {
  few = is.few;
  slots = is.slots;
  rows = all-push _ (rows_beside book.rows row) row
      (all-filtered _ _ _ (λ (r : Row) here stays. here) book.rows is.rows)
      (record {
        has_connector = rw is.slots has;
        in_transaction = has-transaction (active_on book.transactions row.connector) row allowed;
      });
}

-- whichever profiles are removed, the remaining ones may stay where they are
pub book-filtered : (book : BookState) (test : Row → Bool) → IsBook book → IsBook (record book { rows = filter test book.rows })
book-filtered book test is = record {
  few = is.few;
  slots = is.slots;
  rows = all-filtered _ _ test (λ (r : Row) here stays. here) book.rows is.rows;
}

-- a connector is active after a transaction was put in its slot
active-placed : (slots : List (Option Transaction)) (place : ℕ) (transaction : Transaction)
    → place < length slots
    → IsSome (active_on (set slots place (Some transaction)) (suc place))
active-placed [] place transaction has = absurd (omega (arith, has))
active-placed (slot ∷ slots) zero transaction has = refl
active-placed (slot ∷ slots) (suc place) transaction has =
    active-placed slots place transaction (omega (arith, has))

-- a row is installed, or dropped
all-installed : (P : Row → Type 0) (rows : List Row) (row : Row) → AllByRecursion P rows → P row
    → AllByRecursion P (installed_if_room rows row)
all-installed P rows row all here = go (nat_le (length (installed rows row)) max_rows)
  where
    go : (b : Bool) → AllByRecursion P (cond b (installed rows row) rows)
    go true = all-push P (rows_beside rows row) row
        (all-filtered P P _ (λ (r : Row) (is : P r) stays. is) rows all) here
    go false = all

-- the same for the start of a transaction
pub book-begun : (book : BookState) (connector : ℕ) (begin : Begin) (id : ℤ) (profile : Option Profile)
    → IsBook book → 0 < connector → connector ≤ length book.ceilings
    → IsBook (record book {
      rows = rows_begun book.rows connector begin.timestamp id profile;
      transactions = set book.transactions (connector - 1) (Some (record { id = id; begin = begin }));
    })
book-begun book connector begin id profile is above has = record {
  few = is.few;
  slots = length-set book.transactions (connector - 1) _ ∙ is.slots;
  rows = go profile;
}
  where
    active : Transaction
    active = record { id = id; begin = begin }

    slots : List (Option Transaction)
    slots = set book.transactions (connector - 1) (Some active)

    one-more : suc (connector - 1) ≡ connector
    one-more = omega (arith, above)

    within : connector - 1 < length book.transactions
    within = omega (arith, above, has, is.slots)

    stand : AllByRecursion (MayStand slots) (without_transaction_profiles book.rows connector)
    stand = all-filtered _ _ _ (λ (r : Row) here stays. row-started book.transactions (connector - 1) active r here) book.rows is.rows

    go : (profile : Option Profile) → AllByRecursion (MayStand slots) (rows_begun book.rows connector begin.timestamp id profile)
    go None = stand
    go (Some profile) = all-installed _ (without_transaction_profiles book.rows connector)
        (transaction_row connector begin.timestamp id profile) stand
        (record {
          has_connector = rw (length-set book.transactions (connector - 1) (Some active), is.slots) has;
          in_transaction = λ tx. subst (λ (c : ℕ). IsSome (active_on slots c)) one-more
              (active-placed book.transactions (connector - 1) active within);
        })

pub book-stopped : (book : BookState) (id : ℤ) → IsBook book → IsBook (book_stopped book id)
book-stopped book id is = go (position (has_id id) book.transactions)
  where
    go : (at : Option ℕ) → IsBook (record book { rows = rows_after_stop (option_map (λ place. place + 1) at) book.rows; transactions = emptied at book.transactions })
    go None = record { few = is.few; slots = is.slots; rows = is.rows }
    go (Some place) = record {
      few = is.few;
      slots = length-set book.transactions place None ∙ is.slots;
      rows = all-filtered _ _ _ (λ (r : Row) here stays. row-stopped book.transactions place r here stays) book.rows is.rows;
    }
