-- The profile of a purpose that prevails at an instant.
use Rattle.std.specs.Prelude.{ℕ, Bool, true, List, [], Option, option_map, is_some, if◌then◌else◌}
use Rattle.std.specs.List.{filter_map}
use Rattle.profile.specs.declared.purpose.Purpose.{Purpose}
use Rattle.profile.specs.declared.purpose.Purpose.TheVariants.{ChargePointMaxProfile, TxDefaultProfile, TxProfile}
use Rattle.profile.specs.declared.row.Row.{Row}
use Rattle.profile.specs.Greatest.{greatest}
use Rattle.profile.specs.ChargingProfile.{rate}
use Rattle.profile.specs.Candidates.{candidates}
use Rattle.profile.specs.Row.{base}
use Rattle.meaning.specs.View.{PointState, active_since}

-- a TxProfile counts only during a transaction (OCPP 1.6, 3.13)
abbrev pub has_its_transaction : Purpose → Option ℕ → Bool
has_its_transaction ChargePointMaxProfile started = true
has_its_transaction TxDefaultProfile started = true
has_its_transaction TxProfile started = is_some started

-- the candidates: the rows of a purpose that count for a connector
abbrev pub counted : Purpose → PointState → ℕ → List Row
counted purpose state connector =
    if has_its_transaction purpose (active_since state connector)
    then candidates purpose state.rows connector
    else []

-- a row's stack level and its limit at an instant, if it has one
abbrev pub level_and_limit : PointState → ℕ → ℕ → ℕ → Row → Option (ℕ × ℕ)
level_and_limit state connector asked instant row =
    option_map (λ (limit : ℕ). (row.profile.stack_level, limit))
    (rate row.profile (base row (active_since state connector) asked) instant)

-- The limit of the profile that prevails: the one with the highest stack level among those of one
-- purpose that have a limit at the instant (OCPP 1.6, 3.13).
abbrev pub prevailing : Purpose → PointState → ℕ → ℕ → ℕ → Option ℕ
prevailing purpose state connector asked instant =
    option_map (λ (best : ℕ × ℕ). best.1)
    (greatest (λ (best : ℕ × ℕ). best.0)
    (filter_map (level_and_limit state connector asked instant) (counted purpose state connector)))
