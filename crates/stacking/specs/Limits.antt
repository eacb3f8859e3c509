-- The limit of a charge point's rows.
use Rattle.std.specs.Prelude.{ℕ}

-- the most profiles installed at a point (this system's choice; MaxChargingProfilesInstalled in
-- OCPP 1.6, 9.4)
abbrev pub max_rows : ℕ
max_rows = 200
