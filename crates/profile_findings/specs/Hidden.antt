-- A profile at connector 0 that may prevail at no connector.
use Rattle.std.specs.Prelude.{◌≡◌, ◌<◌, ◌≤◌, ℕ, List, false}
use Rattle.profile.specs.declared.purpose.Purpose.TheVariants.{TxDefaultProfile}
use Rattle.profile.specs.declared.row.Row.{Row}
use Rattle.profile.specs.Candidates.{is_candidate}

-- at none of the connectors up to this number it is a candidate TxDefaultProfile (OCPP 1.6, 3.13)
abbrev pub SpeaksForNone : List Row → ℕ → Row → Type 0
SpeaksForNone rows connectors row =
    (connector : ℕ) → 0 < connector → connector ≤ connectors
    → is_candidate TxDefaultProfile rows connector row ≡ false

-- a TxDefaultProfile at connector 0, for all connectors, that may prevail at none
abbrev pub IsHiddenEverywhere : List Row → ℕ → Row → Type 0
IsHiddenEverywhere rows connectors row =
    (row.connector ≡ 0) × (row.profile.purpose ≡ TxDefaultProfile)
    × SpeaksForNone rows connectors row
