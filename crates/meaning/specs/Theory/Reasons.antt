-- Lemmas that crates above cite: nothing here has to be believed.
-- The limit of a reason is the limit.
use Rattle.std.proofs.Common.{◌≡◌, ℕ, ◌≤◌, ◌==◌, Bool, true, false, List, [], ◌∷◌, Option, Some, None, option_map, cond, min, nat_lt, map, refl, ap, sym, ◌∙◌, arith}
use Rattle.std.specs.List.{filter_map, cons_option}
use Rattle.std.proofs.lemmas.Bool.Decides.{nat_tests}
use Rattle.profile.specs.declared.purpose.Purpose.{Purpose}
use Rattle.profile.specs.declared.purpose.Purpose.TheVariants.{ChargePointMaxProfile, TxDefaultProfile, TxProfile}
use Rattle.profile.specs.declared.row.Row.{Row}
use Rattle.profile.specs.ChargingProfile.{rate}
use Rattle.profile.specs.Greatest.{greater, greatest}
use Rattle.profile.specs.Row.{base}
use Rattle.meaning.specs.declared.cause.Cause.TheVariants.{PointCeiling, ConnectorCeiling, Sum}
use Rattle.meaning.specs.View.{PointState, active_since, ceiling_of}
use Rattle.meaning.specs.Prevailing.{counted, level_and_limit, prevailing}
use Rattle.meaning.specs.Limit.{or_else, at_most, own_limit, point_limit, shared_limit, limit, limit_by}
use Rattle.meaning.specs.Cause.{RowLimit, Bound, with_limit, row_limit, level_of, prevailing_row, row_or_else, bound_of, lesser, lesser_of, own_bound, below_point, bound_by, reason}

abbrev limit_of : RowLimit → ℕ
limit_of best = best.limit

-- a row's level and its limit
abbrev pair : RowLimit → ℕ × ℕ
pair best = (level_of best, best.limit)

paired : (state : PointState) (connector asked instant : ℕ) (rows : List Row)
    → filter_map (level_and_limit state connector asked instant) rows ≡ map pair (filter_map (row_limit state connector asked instant) rows)
paired state connector asked instant [] = refl
paired state connector asked instant (row ∷ rows) =
    go (rate row.profile (base row (active_since state connector) asked) instant) (paired state connector asked instant rows)
  where
    go : (limit : Option ℕ) → filter_map (level_and_limit state connector asked instant) rows ≡ map pair (filter_map (row_limit state connector asked instant) rows)
        → cons_option (option_map (λ (limit : ℕ). (row.profile.stack_level, limit)) limit) (filter_map (level_and_limit state connector asked instant) rows)
        ≡ map pair (cons_option (option_map (with_limit row) limit) (filter_map (row_limit state connector asked instant) rows))
    go None h = h
    go (Some limit) h = ap (λ (rest : List (ℕ × ℕ)). (row.profile.stack_level, limit) ∷ rest) h

greater_paired : (x : RowLimit) (best : Option RowLimit) → greater (λ (best : ℕ × ℕ). best.0) (pair x) (option_map pair best) ≡ pair (greater level_of x best)
greater_paired x None = refl
greater_paired x (Some best) = go (nat_lt (level_of x) (level_of best))
  where
    go : (b : Bool) → cond b (pair best) (pair x) ≡ pair (cond b best x)
    go true = refl
    go false = refl

greatest_paired : (bests : List RowLimit) → greatest (λ (best : ℕ × ℕ). best.0) (map pair bests) ≡ option_map pair (greatest level_of bests)
greatest_paired [] = refl
greatest_paired (x ∷ bests) =
    ap (λ (best : Option (ℕ × ℕ)). Some (greater (λ (best : ℕ × ℕ). best.0) (pair x) best)) (greatest_paired bests)
    ∙ ap (λ (best : ℕ × ℕ). Some best) (greater_paired x (greatest level_of bests))

-- the limit of the row that prevails is the prevailing limit
pub prevailing_is : (purpose : Purpose) (state : PointState) (connector asked instant : ℕ)
    → prevailing purpose state connector asked instant ≡ option_map limit_of (prevailing_row purpose state connector asked instant)
prevailing_is purpose state connector asked instant =
    ap (λ (bests : List (ℕ × ℕ)). option_map (λ (best : ℕ × ℕ). best.1) (greatest (λ (best : ℕ × ℕ). best.0) bests)) (paired state connector asked instant (counted purpose state connector))
    ∙ (ap (option_map (λ (best : ℕ × ℕ). best.1)) (greatest_paired (filter_map (row_limit state connector asked instant) (counted purpose state connector)))
    ∙ twice (prevailing_row purpose state connector asked instant))
  where
    twice : (best : Option RowLimit) → option_map (λ (best : ℕ × ℕ). best.1) (option_map pair best) ≡ option_map limit_of best
    twice None = refl
    twice (Some best) = refl

lesser_limit : (first second : Bound) → (lesser first second).limit ≡ min second.limit first.limit
lesser_limit first second = go (nat_lt second.limit first.limit) refl
  where
    go : (b : Bool) → nat_lt second.limit first.limit ≡ b → (cond b second first).limit ≡ min second.limit first.limit
    go true less = let below : second.limit ≤ first.limit = grind (arith, nat_tests) in omega (arith, below)
    go false not_less = let below : first.limit ≤ second.limit = grind (arith, nat_tests) in omega (arith, below)

lesser_of_limit : (best : Option RowLimit) (other : Bound) → (lesser_of best other).limit ≡ at_most other.limit (option_map limit_of best)
lesser_of_limit None other = refl
lesser_of_limit (Some best) other = lesser_limit _ other

either_limit : (first other : Option RowLimit) → option_map limit_of (row_or_else first other) ≡ or_else (option_map limit_of first) (option_map limit_of other)
either_limit None other = refl
either_limit (Some first) other = refl

-- the limit of a connector's own bound is its own limit
pub own_is : (state : PointState) (connector asked instant : ℕ) → (own_bound state connector asked instant).limit ≡ own_limit state connector asked instant
own_is state connector asked instant =
    let tx = prevailing_row TxProfile state connector asked instant in
    let default = prevailing_row TxDefaultProfile state connector asked instant in
    lesser_of_limit (row_or_else tx default) (bound_of ConnectorCeiling (ceiling_of state connector))
    ∙ (ap (at_most (ceiling_of state connector)) (either_limit tx default)
    ∙ (ap (λ (limit : Option ℕ). at_most (ceiling_of state connector) (or_else limit (option_map limit_of default))) (sym (prevailing_is TxProfile state connector asked instant))
    ∙ ap (λ (limit : Option ℕ). at_most (ceiling_of state connector) (or_else (prevailing TxProfile state connector asked instant) limit)) (sym (prevailing_is TxDefaultProfile state connector asked instant))))

at_most_below : (ceiling limit : ℕ) (most : Option ℕ) → at_most (min ceiling limit) most ≡ min (at_most ceiling most) limit
at_most_below ceiling limit None = refl
at_most_below ceiling limit (Some most) = omega arith

below_limit : (state : PointState) (asked instant : ℕ) (below : Bound) → (below_point state asked instant below).limit ≡ min (point_limit state asked instant) below.limit
below_limit state asked instant below =
    let best = prevailing_row ChargePointMaxProfile state 0 asked instant in
    lesser_of_limit best (lesser below (bound_of PointCeiling state.ceiling))
    ∙ (ap (λ (n : ℕ). at_most n (option_map limit_of best)) (lesser_limit below (bound_of PointCeiling state.ceiling))
    ∙ (at_most_below state.ceiling below.limit (option_map limit_of best)
    ∙ ap (λ (most : Option ℕ). min (at_most state.ceiling most) below.limit) (sym (prevailing_is ChargePointMaxProfile state 0 asked instant))))

bound_limit : (whole : Bool) (state : PointState) (connector asked instant : ℕ) → (bound_by whole state connector asked instant).limit ≡ limit_by whole state connector asked instant
bound_limit true state connector asked instant = below_limit state asked instant (bound_of Sum (shared_limit state asked instant))
bound_limit false state connector asked instant =
    below_limit state asked instant (own_bound state connector asked instant)
    ∙ ap (min (point_limit state asked instant)) (own_is state connector asked instant)

-- the limit of a reason is the limit
pub reason_limit : (state : PointState) (connector asked instant : ℕ) → (reason state connector asked instant).limit ≡ limit state connector asked instant
reason_limit state connector asked instant = bound_limit (connector == 0) state connector asked instant
