-- A row with its limit as a ProfileLimit, and the row that prevails as one. The lemmas `higher_is`
-- and `lesser_is` of `proofs/Bounds.antt` tie these forms to `prevailing_row` and `lesser_of` of
-- `specs/Cause.antt`.
use Rattle.std.specs.Prelude.{ℕ, Option, Some, None, option_map}
use Rattle.profile.specs.declared.purpose.Purpose.{Purpose}
use Rattle.meaning.specs.declared.bound.ProfileLimit.{ProfileLimit}
use Rattle.meaning.specs.declared.cause.Cause.TheVariants.{Profile}
use Rattle.meaning.specs.View.{PointState}
use Rattle.meaning.specs.Cause.{RowLimit, Bound, profile_of, bound_of, lesser, prevailing_row, transaction_row}

abbrev pub profile_limit_of : RowLimit → ProfileLimit
profile_limit_of best = record { profile = profile_of best.row; limit = best.limit }

abbrev pub level_of_limit : ProfileLimit → ℕ
level_of_limit best = best.profile.stack_level

abbrev pub lesser_bound : Option ProfileLimit → Bound → Bound
lesser_bound None other = other
lesser_bound (Some best) other = lesser (bound_of (Profile best.profile) best.limit) other

abbrev pub prevailing_profile_limit : Purpose → PointState → ℕ → ℕ → ℕ → Option ProfileLimit
prevailing_profile_limit purpose state connector asked instant =
    option_map profile_limit_of (prevailing_row purpose state connector asked instant)

abbrev pub transaction_profile_limit : PointState → ℕ → ℕ → ℕ → Option ProfileLimit
transaction_profile_limit state connector asked instant =
    option_map profile_limit_of (transaction_row state connector asked instant)
