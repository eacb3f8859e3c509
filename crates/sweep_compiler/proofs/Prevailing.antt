-- Of candidates by falling level, the first that has a limit prevails.
use Rattle.std.proofs.Common.{◌≡◌, ℕ, ◌<◌, ◌≤◌, ◌==◌, nat_lt, Bool, true, false, List, [], ◌∷◌, map, cond, Option, Some, None, option_map, ⊎_elim, refl, ap, sym, subst, ◌∙◌, arith}
use Rattle.std.specs.List.{AllByRecursion, filter_map, cons_option}
use Rattle.std.proofs.lemmas.Bool.{cases_order, eq-eqb}
use Rattle.std.proofs.lemmas.Bool.Decides.{nat_tests}
use Rattle.profile.specs.declared.purpose.Purpose.{Purpose}
use Rattle.profile.specs.declared.row.Row.{Row}
use Rattle.profile.specs.ChargingProfile.{rate}
use Rattle.profile.specs.Greatest.{greater, greatest}
use Rattle.profile.specs.Row.{base}
use Rattle.stacking.specs.Candidates.{AreStrictlyFalling, AreByFallingLevel, rows_of_level}
use Rattle.meaning.specs.View.{PointState, active_since}
use Rattle.meaning.specs.Prevailing.{counted, prevailing}
use Rattle.meaning.specs.Limit.{or_else}
use Rattle.meaning.specs.Cause.{RowLimit, with_limit, level_of, prevailing_row, row_or_else}
use Rattle.meaning.specs.Theory.Greatest.{greatest_of}
use Rattle.meaning.specs.Theory.Reasons.{prevailing_is}
use Rattle.sweep_compiler.specs.ByCases.Seen.{first_limit, seen_from}

-- the limit of a row for a connector at an instant
abbrev pub rate_for : PointState → ℕ → ℕ → ℕ → Row → Option ℕ
rate_for state connector asked instant row = rate row.profile (base row (active_since state connector) asked) instant

-- the first row that has a limit, with its limit
abbrev pub first_of : (Row → Option ℕ) → List Row → Option RowLimit
first_of give [] = None
first_of give (row ∷ rows) = row_or_else (option_map (with_limit row) (give row)) (first_of give rows)

-- the first row of a level that has a limit
abbrev at_level : (Row → Option ℕ) → List Row → ℕ → Option RowLimit
at_level give [] n = None
at_level give (row ∷ rows) n = cond (row.profile.stack_level == n) (row_or_else (option_map (with_limit row) (give row)) (at_level give rows n)) (at_level give rows n)

-- the row of the highest level that has a limit
record IsTopAt (limits : ℕ → Option RowLimit) (best : RowLimit) : Type 0 where
  has : limits (level_of best) ≡ Some best
  above : (n : ℕ) → level_of best < n → limits n ≡ None

abbrev IsTopOf : (ℕ → Option RowLimit) → Option RowLimit → Type 0
IsTopOf limits None = (n : ℕ) → limits n ≡ None
IsTopOf limits (Some best) = IsTopAt limits best

none_is_some : {Y : Type 0} (limit : Option RowLimit) (best : RowLimit) → limit ≡ None → limit ≡ Some best → Y
none_is_some limit best h k = cc

one_top : (limits : ℕ → Option RowLimit) (best other : Option RowLimit) → IsTopOf limits best → IsTopOf limits other → best ≡ other
one_top limits None None h k = refl
one_top limits None (Some other) h k = none_is_some (limits (level_of other)) other (h (level_of other)) k.has
one_top limits (Some best) None h k = none_is_some (limits (level_of best)) best (k (level_of best)) h.has
one_top limits (Some best) (Some other) h k = ⊎_elim
    (λ (same : level_of best ≡ level_of other). sym h.has ∙ (ap limits same ∙ k.has))
    (⊎_elim
    (λ (less : level_of best < level_of other). none_is_some (limits (level_of other)) other (h.above (level_of other) less) k.has)
    (λ (more : level_of other < level_of best). none_is_some (limits (level_of best)) best (k.above (level_of best) more) h.has))
    (cases_order (level_of best) (level_of other))

-- equal limits have the same top
same_top : (limits others : ℕ → Option RowLimit) (best : Option RowLimit) → ((n : ℕ) → others n ≡ limits n) → IsTopOf limits best → IsTopOf others best
same_top limits others None same h = λ n. same n ∙ h n
same_top limits others (Some best) same h = record { has = same (level_of best) ∙ h.has; above = λ n more. same n ∙ h.above n more }

-- ---- one more row

cond_same : {X : Type 0} (b : Bool) (x : X) → cond b x x ≡ x
cond_same true x = refl
cond_same false x = refl

here_is : (n : ℕ) (limits : ℕ → Option RowLimit) (best : RowLimit) → cond (n == n) (row_or_else (Some best) (limits n)) (limits n) ≡ Some best
here_is n limits best = ap (λ (b : Bool). cond b (Some best) (limits n)) (eq-eqb n n refl)

apart_is : (at n : ℕ) (limits : ℕ → Option RowLimit) (limit : Option RowLimit) → (at == n) ≡ false → cond (at == n) (row_or_else limit (limits n)) (limits n) ≡ limits n
apart_is at n limits limit apart = ap (λ (b : Bool). cond b (row_or_else limit (limits n)) (limits n)) apart

top_more : (row : Row) (limit : Option ℕ) (limits : ℕ → Option RowLimit) (best : Option RowLimit) → IsTopOf limits best
    → IsTopOf (λ n. cond (row.profile.stack_level == n) (row_or_else (option_map (with_limit row) limit) (limits n)) (limits n)) (greatest_of level_of (option_map (with_limit row) limit) best)
top_more row None limits None h = λ n. cond_same (row.profile.stack_level == n) (limits n) ∙ h n
top_more row None limits (Some best) h = same_top limits _ (Some best) (λ n. cond_same (row.profile.stack_level == n) (limits n)) h
top_more row (Some limit) limits None h = record {
  has = here_is row.profile.stack_level limits (with_limit row limit);
  above = λ n more.
      let at = row.profile.stack_level in
      let apart : (at == n) ≡ false = grind (arith, nat_tests, more) in
      apart_is at n limits (Some (with_limit row limit)) apart ∙ h n;
}
top_more row (Some limit) limits (Some best) h = go (nat_lt row.profile.stack_level (level_of best)) refl
  where
    go : (b : Bool) → nat_lt row.profile.stack_level (level_of best) ≡ b
        → IsTopOf (λ n. cond (row.profile.stack_level == n) (row_or_else (Some (with_limit row limit)) (limits n)) (limits n)) (Some (cond b best (with_limit row limit)))
    go true less =
        let at = row.profile.stack_level in
        let top = level_of best in
        record {
          has = let apart : (at == top) ≡ false = grind (arith, nat_tests, less) in apart_is at top limits (Some (with_limit row limit)) apart ∙ h.has;
          above = λ n more. let apart : (at == n) ≡ false = grind (arith, nat_tests, less, more) in apart_is at n limits (Some (with_limit row limit)) apart ∙ h.above n more;
        }
    go false not_less =
        let at = row.profile.stack_level in
        let top = level_of best in
        record {
          has = here_is at limits (with_limit row limit);
          above = λ n more.
              let apart : (at == n) ≡ false = grind (arith, nat_tests, more) in
              let higher : top < n = grind (arith, nat_tests, not_less, more) in
              apart_is at n limits (Some (with_limit row limit)) apart ∙ h.above n higher;
        }

one_first : (next best : Option RowLimit) (bests : List RowLimit) → best ≡ greatest level_of bests
    → greatest_of level_of next best ≡ greatest level_of (cons_option next bests)
one_first None best bests e = none best ∙ e
  where
    none : (best : Option RowLimit) → greatest_of level_of None best ≡ best
    none None = refl
    none (Some best) = refl
one_first (Some next) best bests e = some best ∙ ap (λ (best : Option RowLimit). Some (greater level_of next best)) e
  where
    some : (best : Option RowLimit) → greatest_of level_of (Some next) best ≡ Some (greater level_of next best)
    some None = refl
    some (Some best) = refl

-- the greatest is the top
greatest_is_top : (give : Row → Option ℕ) (rows : List Row) → IsTopOf (at_level give rows) (greatest level_of (filter_map (λ (row : Row). option_map (with_limit row) (give row)) rows))
greatest_is_top give [] = λ n. refl
greatest_is_top give (row ∷ rows) =
    let bests = filter_map (λ (row : Row). option_map (with_limit row) (give row)) rows in
    subst (IsTopOf (at_level give (row ∷ rows))) (one_first (option_map (with_limit row) (give row)) (greatest level_of bests) bests refl)
    (top_more row (give row) (at_level give rows) (greatest level_of bests) (greatest_is_top give rows))

-- ---- by falling level

abbrev AreBelow : ℕ → List Row → Type 0
AreBelow top rows = AllByRecursion (λ (low : Row). low.profile.stack_level < top) rows

pub rows_below : (row : Row) (rows : List Row) → AreStrictlyFalling (row ∷ rows) → AllByRecursion (λ (low : Row). low.profile.stack_level < row.profile.stack_level) rows
rows_below row [] falling = tt
rows_below row (next ∷ rows) falling = (falling.0, lower rows (rows_below next rows falling.1))
  where
    lower : (rows : List Row) → AllByRecursion (λ (low : Row). low.profile.stack_level < next.profile.stack_level) rows → AllByRecursion (λ (low : Row). low.profile.stack_level < row.profile.stack_level) rows
    lower [] all = tt
    lower (x ∷ rows) all = (omega (arith, all.0, falling.0), lower rows all.1)

pub falling_tail : (row : Row) (rows : List Row) → AreStrictlyFalling (row ∷ rows) → AreStrictlyFalling rows
falling_tail row [] falling = tt
falling_tail row (next ∷ rows) falling = falling.1

none_above : (give : Row → Option ℕ) (top n : ℕ) (rows : List Row) → AreBelow top rows → top ≤ n → at_level give rows n ≡ None
none_above give top n [] below high = refl
none_above give top n (row ∷ rows) below high =
    let at = row.profile.stack_level in
    let low : at < top = below.0 in
    let apart : (at == n) ≡ false = grind (arith, nat_tests, low, high) in
    apart_is at n (at_level give rows) (option_map (with_limit row) (give row)) apart ∙ none_above give top n rows below.1 high

first_is_top : (give : Row → Option ℕ) (rows : List Row) → AreStrictlyFalling rows → IsTopOf (at_level give rows) (first_of give rows)
first_is_top give [] falling = λ n. refl
first_is_top give (row ∷ rows) falling = go (give row) (first_of give rows) (first_is_top give rows (falling_tail row rows falling))
  where
    go : (limit : Option ℕ) (best : Option RowLimit) → IsTopOf (at_level give rows) best
        → IsTopOf (λ n. cond (row.profile.stack_level == n) (row_or_else (option_map (with_limit row) limit) (at_level give rows n)) (at_level give rows n)) (row_or_else (option_map (with_limit row) limit) best)
    go None best h = same_top (at_level give rows) _ best (λ n. cond_same (row.profile.stack_level == n) (at_level give rows n)) h
    go (Some limit) best h =
        let at = row.profile.stack_level in
        record {
          has = here_is at (at_level give rows) (with_limit row limit);
          above = λ n more.
              let apart : (at == n) ≡ false = grind (arith, nat_tests, more) in
              apart_is at n (at_level give rows) (Some (with_limit row limit)) apart ∙ none_above give at n rows (rows_below row rows falling) (omega (arith, more));
        }

-- ---- rows

of_level : (give : Row → Option ℕ) (n : ℕ) (rows : List Row) → at_level give rows n ≡ first_of give (rows_of_level n rows)
of_level give n [] = refl
of_level give n (row ∷ rows) = go (row.profile.stack_level == n) (of_level give n rows)
  where
    go : (b : Bool) → at_level give rows n ≡ first_of give (rows_of_level n rows)
        → cond b (row_or_else (option_map (with_limit row) (give row)) (at_level give rows n)) (at_level give rows n) ≡ first_of give (cond b (row ∷ rows_of_level n rows) (rows_of_level n rows))
    go true h = ap (row_or_else (option_map (with_limit row) (give row))) h
    go false h = h

pub row_of_candidates : (purpose : Purpose) (state : PointState) (connector asked instant : ℕ) (sorted : List Row) → AreByFallingLevel (counted purpose state connector) sorted
    → first_of (rate_for state connector asked instant) sorted ≡ prevailing_row purpose state connector asked instant
row_of_candidates purpose state connector asked instant sorted are =
    let rows = counted purpose state connector in
    let give = rate_for state connector asked instant in
    let limits : (n : ℕ) → at_level give sorted n ≡ at_level give rows n =
    λ n. of_level give n sorted ∙ (ap (first_of give) (are.same n) ∙ sym (of_level give n rows)) in
    one_top (at_level give sorted) (first_of give sorted) (prevailing_row purpose state connector asked instant)
    (first_is_top give sorted are.falling)
    (same_top (at_level give rows) (at_level give sorted) (prevailing_row purpose state connector asked instant) limits (greatest_is_top give rows))

-- ---- their limits

limit_first : (state : PointState) (connector asked instant : ℕ) (rows : List Row)
    → first_limit instant (map (seen_from state connector asked) rows) ≡ option_map (λ (best : RowLimit). best.limit) (first_of (rate_for state connector asked instant) rows)
limit_first state connector asked instant [] = refl
limit_first state connector asked instant (row ∷ rows) = go (rate_for state connector asked instant row) (limit_first state connector asked instant rows)
  where
    go : (limit : Option ℕ)
        → first_limit instant (map (seen_from state connector asked) rows) ≡ option_map (λ (best : RowLimit). best.limit) (first_of (rate_for state connector asked instant) rows)
        → or_else limit (first_limit instant (map (seen_from state connector asked) rows))
        ≡ option_map (λ (best : RowLimit). best.limit) (row_or_else (option_map (with_limit row) limit) (first_of (rate_for state connector asked instant) rows))
    go None h = h
    go (Some limit) h = refl

pub first_of_candidates : (purpose : Purpose) (state : PointState) (connector asked instant : ℕ) (sorted : List Row) → AreByFallingLevel (counted purpose state connector) sorted
    → first_limit instant (map (seen_from state connector asked) sorted) ≡ prevailing purpose state connector asked instant
first_of_candidates purpose state connector asked instant sorted are =
    limit_first state connector asked instant sorted
    ∙ (ap (option_map (λ (best : RowLimit). best.limit)) (row_of_candidates purpose state connector asked instant sorted are)
    ∙ sym (prevailing_is purpose state connector asked instant))
