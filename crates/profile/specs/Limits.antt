-- The limits of a charging profile.
use Rattle.std.specs.Prelude.{ℕ}

-- the highest stack level of a profile (this system's choice; ChargeProfileMaxStackLevel in OCPP
-- 1.6, 9.4)
abbrev pub max_stack_level : ℕ
max_stack_level = 99

-- the most periods of a schedule (this system's choice; ChargingScheduleMaxPeriods in OCPP 1.6,
-- 9.4)
abbrev pub max_periods : ℕ
max_periods = 200

-- a day and a week, in seconds (OCPP 1.6, chapter 7, RecurrencyKindType)
abbrev pub day : ℕ
day = 86_400

abbrev pub week : ℕ
week = 604_800
