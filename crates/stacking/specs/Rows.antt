-- The invariant of a charge point's rows, and the refusals of a new row.
use Rattle.std.specs.Prelude.{ℕ, ℤ, ◌<◌, ◌≤◌, ◌≡◌, nat_le, false, List, [], ◌∷◌, length, Option, Some, None, if◌then◌else◌}
use Rattle.std.specs.List.{AllByRecursion}
use Rattle.ocpp_scalars.specs.declared.refusal.Refusal.{Refusal}
use Rattle.ocpp_scalars.specs.declared.refusal.Refusal.TheVariants.{TooManyProfiles, OutOfMemory}
use Rattle.profile.specs.declared.charging_profile.Profile.{Profile}
use Rattle.profile.specs.declared.row.Row.{Row}
use Rattle.profile.specs.ChargingProfile.{with_transaction}
use Rattle.profile.specs.Changes.{is_replaced_by, installed, without_transaction_profiles}
use Rattle.stacking.specs.Limits.{max_rows}

-- no row would replace another: no two have the same chargingProfileId (OCPP 1.6, 5.16), and no two
-- the same connector, purpose and stack level
abbrev pub AreApart : List Row → Type 0
AreApart [] = Unit {0}
AreApart (row ∷ later) = AllByRecursion (λ new. is_replaced_by new row ≡ false) later × AreApart later

pub record AreRows (rows : List Row) : Type 0 where
  pub few : length rows ≤ max_rows
  pub apart : AreApart rows

-- An install is refused if there would be more rows after it than the limit, not counting those
-- that it replaces; otherwise only if memory ran out.
abbrev pub IsCause : ℕ → Refusal → Type 0
IsCause many TooManyProfiles = max_rows < many
IsCause many OutOfMemory = many ≤ max_rows
IsCause many other = ⊥

-- nothing has changed, and the row is returned
pub record IsRefused (old : List Row) (row : Row) (refused : Refusal × Row) (new : List Row) : Type 0 where
  pub cause : IsCause (length (installed old row)) refused.0
  pub unchanged : new ≡ old
  pub back : refused.1 ≡ row

-- ---- the start of a transaction

-- The row of the profile that a transaction begins with (OCPP 1.6, 5.11): for the transaction of
-- this number, from the moment of its start.
abbrev pub transaction_row : ℕ → ℕ → ℤ → Profile → Row
transaction_row connector moment id profile =
    record { connector = connector; moment = moment; profile = with_transaction profile id }

-- a row is dropped if there would be more rows than the limit
abbrev pub installed_if_room : List Row → Row → List Row
installed_if_room rows row =
    if nat_le (length (installed rows row)) max_rows then installed rows row else rows

-- the rows after a start: the TxProfiles of the previous transaction at the connector are removed
-- (3.13)
abbrev pub rows_begun : List Row → ℕ → ℕ → ℤ → Option Profile → List Row
rows_begun rows connector moment id None = without_transaction_profiles rows connector
rows_begun rows connector moment id (Some profile) =
    installed_if_room (without_transaction_profiles rows connector)
    (transaction_row connector moment id profile)
