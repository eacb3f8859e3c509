-- A row that prevails has no row of a higher level above it.
use Rattle.std.proofs.Common.{◌≡◌, ℕ, Bool, true, false, Option, Some, None, ◌&&◌, is_some, refl}
use Rattle.profile.specs.declared.purpose.Purpose.TheVariants.{TxProfile}
use Rattle.profile.specs.declared.row.Row.{Row}
use Rattle.profile.specs.Purpose.{is_tx_default}
use Rattle.meaning.specs.declared.cause.WhyNot.{WhyNot}
use Rattle.meaning.specs.declared.cause.WhyNot.TheVariants.{BelowHigherLevel, BehindTxProfile}
use Rattle.meaning.specs.View.{PointState}
use Rattle.meaning.specs.Cause.{counts_for, prevailing_row}
use Rattle.meaning.specs.WhyNot.{first_of, where_so, is_above, why_not_counted, why_no_limit, why_behind, why_not}

later_none : (first later : Option WhyNot) → first_of first later ≡ None → later ≡ None
later_none None later h = h
later_none (Some why) later h = cc

first_none : (first later : Option WhyNot) → first_of first later ≡ None → first ≡ None
first_none None later h = refl
first_none (Some why) later h = cc

where_none : (why : WhyNot) (b : Bool) → where_so why b ≡ None → b ≡ false
where_none why true h = cc
where_none why false h = refl

pub none_above : (state : PointState) (connector asked instant : ℕ) (row : Row) → why_not state connector asked instant row ≡ None
    → is_above row.profile.stack_level (prevailing_row row.profile.purpose state (counts_for row.profile.purpose connector) asked instant) ≡ false
none_above state connector asked instant row h =
    let at = counts_for row.profile.purpose connector in
    let above = is_above row.profile.stack_level (prevailing_row row.profile.purpose state at asked instant) in
    let behind = is_tx_default row.profile.purpose && is_some (prevailing_row TxProfile state at asked instant) in
    let rest = later_none (why_not_counted state at row) (first_of (why_no_limit state at asked instant row) (why_behind state at asked instant row)) h in
    let last = later_none (why_no_limit state at asked instant row) (why_behind state at asked instant row) rest in
    where_none BelowHigherLevel above (first_none (where_so BelowHigherLevel above) (where_so BehindTxProfile behind) last)

pub never_both : (b : Bool) → b ≡ true → b ≡ false → ⊥
never_both true h k = cc
never_both false h k = cc
