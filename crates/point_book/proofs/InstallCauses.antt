-- A row is refused by the first of its causes.
use Rattle.std.proofs.Common.{◌≡◌, ◌≢◌, ◌<◌, nat_le, ℤ, Bool, true, false, not, ◌↔◌, inl, inr, List, [], ◌∷◌, length, Option, Some, None, refl, sym, ◌∙◌, if◌then◌else◌, true≢false, arith, leb-true}
use Rattle.std.specs.Prelude.{is_none}
use Rattle.std.specs.Ordering.{int_eq}
use Rattle.std.proofs.lemmas.Bool.Decides.{nat_tests, Decides-int_eq}
use Rattle.ocpp_scalars.specs.declared.refusal.Refusal.{Refusal}
use Rattle.ocpp_scalars.specs.declared.refusal.Refusal.TheVariants.{NoTransaction, OtherTransaction, TooManyProfiles}
use Rattle.ocpp_scalars.specs.Causes.{Cause, ◌because◌, IsFirstCause}
use Rattle.ocpp_scalars.specs.Theory.Causes.{first_cause_law}
use Rattle.profile.specs.declared.charging_profile.Profile.{Profile}
use Rattle.profile.specs.declared.row.Row.{Row}
use Rattle.profile.specs.declared.purpose.Purpose.{Purpose}
use Rattle.profile.specs.declared.purpose.Purpose.TheVariants.{ChargePointMaxProfile, TxDefaultProfile, TxProfile}
use Rattle.profile.specs.Purpose.{is_tx}
use Rattle.profile.specs.Changes.{installed}
use Rattle.stacking.specs.Limits.{max_rows}
use Rattle.point_book.specs.Book.{BookState, active_on}
use Rattle.point_book.specs.Changes.{LacksTransaction, NamesAnother, install_causes, names_another, room_refusal, first_cause, install_refusal}

-- ---- room

room_cause : (rows : List Row) (row : Row)
    → IsFirstCause ((TooManyProfiles because max_rows < length (installed rows row)) ∷ [])
    (room_refusal rows row)
room_cause rows row = go (nat_le (length (installed rows row)) max_rows) refl
  where
    go : (fits : Bool) → nat_le (length (installed rows row)) max_rows ≡ fits
        → IsFirstCause ((TooManyProfiles because max_rows < length (installed rows row)) ∷ [])
        (if fits then None else Some TooManyProfiles)
    go true e =
        let few = leb-true (length (installed rows row)) max_rows e in
        inr ((λ many. absurd (omega (arith, few, many))), refl)
    go false e = inl (grind (arith, nat_tests), refl)

-- ---- the transaction

same_some : (one other : ℤ) → Some one ≡ Some other → one ≡ other
same_some one other e = cc

module _ (profile : Profile) (active : Option ℤ) (room : Option Refusal) (later : List Cause)
    (rest : IsFirstCause later room) where
  abbrev named_causes : List Cause
  named_causes = (OtherTransaction because NamesAnother active profile) ∷ later

  abbrev causes : List Cause
  causes = (NoTransaction because LacksTransaction active profile) ∷ named_causes

  abbrev of_names : Bool → Option Refusal
  of_names another = if another then Some OtherTransaction else None

  abbrev of_active : Option ℤ → Option Refusal
  of_active found =
      if is_none found then Some NoTransaction
      else of_names (names_another profile.transaction found)

  abbrev of_purpose : Purpose → Option Refusal
  of_purpose purpose = if not (is_tx purpose) then None else of_active active

  other_purpose : profile.purpose ≢ TxProfile → IsFirstCause causes room
  other_purpose differs =
      inr (
        (λ lacks. differs lacks.of_transaction),
        inr ((λ names. differs names.of_transaction), rest),
      )

  -- an active transaction, and the requested one
  module _ (running : ℤ) (is : active ≡ Some running) (purpose : profile.purpose ≡ TxProfile) where
    one_active : ¬ LacksTransaction active profile
    one_active lacks = let both : Some running ≡ None = sym is ∙ lacks.inactive in cc

    none_named : profile.transaction ≡ None → ¬ NamesAnother active profile
    none_named none names = let both : None ≡ Some names.asked = sym none ∙ names.names in cc

    same_named : (asked : ℤ) → profile.transaction ≡ Some asked → int_eq asked running ≡ true
        → ¬ NamesAnother active profile
    same_named asked named e names =
        let one = same_some names.asked asked (sym names.names ∙ named) in
        let two = same_some names.running running (sym names.is_active ∙ is) in
        names.other (one ∙ ((Decides-int_eq asked running).0 e ∙ sym two))

    by_equality : (asked : ℤ) → profile.transaction ≡ Some asked
        → (equal : Bool) → int_eq asked running ≡ equal
        → IsFirstCause named_causes (first_cause (of_names (not equal)) room)
    by_equality asked named true e = inr (same_named asked named e, rest)
    by_equality asked named false e =
        let other : asked ≢ running =
        λ both. true≢false (sym ((Decides-int_eq asked running).1 both) ∙ e) in
        inl (
          record {
            of_transaction = purpose;
            asked = asked;
            running = running;
            names = named;
            is_active = is;
            other = other;
          },
          refl,
        )

    by_names : (asked : Option ℤ) → profile.transaction ≡ asked
        → IsFirstCause causes (first_cause (of_names (names_another asked (Some running))) room)
    by_names None none = inr (one_active, inr (none_named none, rest))
    by_names (Some asked) named =
        inr (one_active, by_equality asked named (int_eq asked running) refl)

  by_active : profile.purpose ≡ TxProfile → (found : Option ℤ) → active ≡ found
      → IsFirstCause causes (first_cause (of_active found) room)
  by_active purpose None is = inl (record { of_transaction = purpose; inactive = is }, refl)
  by_active purpose (Some running) is = by_names running is purpose profile.transaction refl

  transaction_cause : (purpose : Purpose) → profile.purpose ≡ purpose
      → IsFirstCause causes (first_cause (of_purpose purpose) room)
  transaction_cause ChargePointMaxProfile is =
      other_purpose (λ tx. let both : ChargePointMaxProfile ≡ TxProfile = sym is ∙ tx in cc)
  transaction_cause TxDefaultProfile is =
      other_purpose (λ tx. let both : TxDefaultProfile ≡ TxProfile = sym is ∙ tx in cc)
  transaction_cause TxProfile is = by_active is active refl

-- ---- the first cause

install_cause : (book : BookState) (row : Row)
    → IsFirstCause (install_causes book row) (install_refusal book row)
install_cause book row =
    transaction_cause row.profile (active_on book.transactions row.connector)
    (room_refusal book.rows row)
    ((TooManyProfiles because max_rows < length (installed book.rows row)) ∷ [])
    (room_cause book.rows row) row.profile.purpose refl

pub installs : (book : BookState) (row : Row) (refusal : Option Refusal)
    → (install_refusal book row ≡ refusal) ↔ IsFirstCause (install_causes book row) refusal
installs book row refusal =
    first_cause_law (install_causes book row) (install_refusal book row)
    (install_cause book row) refusal
