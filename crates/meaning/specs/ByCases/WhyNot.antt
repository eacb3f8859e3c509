-- Whether a row is above a stack level. The lemma `higher_counts` of `proofs/Higher.antt` ties it
-- to `is_above` of `specs/WhyNot.antt`.
use Rattle.std.specs.Prelude.{ℕ, nat_lt, Bool, ◌&&◌, is_some}
use Rattle.profile.specs.declared.purpose.Purpose.{Purpose}
use Rattle.profile.specs.declared.row.Row.{Row}
use Rattle.profile.specs.Candidates.{is_candidate}
use Rattle.profile.specs.ChargingProfile.{rate}
use Rattle.profile.specs.Row.{base}
use Rattle.meaning.specs.View.{PointState, active_since}

-- whether a row has a limit for a connector at an instant and is a candidate of a higher stack
-- level
abbrev pub is_higher : Purpose → PointState → ℕ → ℕ → ℕ → ℕ → Row → Bool
is_higher purpose state connector asked instant level row =
    nat_lt level row.profile.stack_level
    && is_some (rate row.profile (base row (active_since state connector) asked) instant)
    && is_candidate purpose state.rows connector row
