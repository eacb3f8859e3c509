-- The limits of composite schedules.
use Rattle.std.specs.Prelude.{ℕ}

-- the longest duration that may be requested, 31 days, in seconds (this system's choice: OCPP 1.6,
-- 5.7, sets no bound)
abbrev pub max_duration : ℕ
max_duration = 2_678_400

-- the most periods of an answer (this system's choice: OCPP 1.6, 5.7, sets no bound)
abbrev pub max_composite_periods : ℕ
max_composite_periods = 4_096
