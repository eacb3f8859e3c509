-- One bound among the others, when a row of it passes its next place.
use Rattle.std.proofs.Common.{◌≡◌, ℕ, ◌+◌, ◌-◌, ◌*◌, ◌<◌, ◌≤◌, ◌^◌, zero, suc, List, [], ◌∷◌, length, get_or, Option, Some, None, refl, ap, sym, subst, ◌∙◌, arith}
use Rattle.std.specs.List.{AllByRecursion, slice_set, sum_by}
use Rattle.std.proofs.lemmas.List.Sums.{sum_by-set, sum_by-cons}
use Rattle.meaning.specs.Limit.{at_most}
use Rattle.sweep_compiler.specs.ByCases.Running.{RunningBound, due_at, first_rate, bound_now, bound_passed}
use Rattle.sweep_compiler.specs.ByCases.Swept.{row_count, due_in, passed_in, shared_now}
use Rattle.sweep_compiler.proofs.Passing.{small_kept, length_kept}

abbrev AreSmall : List RunningBound → Type 0
AreSmall bounds = AllByRecursion (λ (bound : RunningBound). bound.ceiling < 2 ^ 32) bounds

pub rows_of : (bounds : List RunningBound) (n : ℕ) (d : RunningBound) → n < length bounds → row_count bounds n ≡ length (get_or bounds n d).runs
rows_of [] n d inside = absurd (omega (arith, inside))
rows_of (bound ∷ others) zero d inside = refl
rows_of (bound ∷ others) (suc n) d inside = rows_of others n d (omega (arith, inside))

pub due_of_bound : (bounds : List RunningBound) (n row : ℕ) (d : RunningBound) → n < length bounds → due_in bounds n row ≡ due_at (get_or bounds n d).runs row
due_of_bound [] n row d inside = absurd (omega (arith, inside))
due_of_bound (bound ∷ others) zero row d inside = refl
due_of_bound (bound ∷ others) (suc n) row d inside = due_of_bound others n row d (omega (arith, inside))

-- the bound of a row exists
pub has_bound : (bounds : List RunningBound) (n row : ℕ) → row < row_count bounds n → n < length bounds
has_bound [] n row inside = absurd (omega (arith, inside))
has_bound (bound ∷ others) zero row inside = omega arith
has_bound (bound ∷ others) (suc n) row inside = let rest = has_bound others n row inside in omega (arith, rest)

pub set_is_passed : (bounds : List RunningBound) (n row : ℕ) (d : RunningBound) → slice_set bounds n (bound_passed row (get_or bounds n d)) ≡ passed_in n row bounds
set_is_passed [] n row d = refl
set_is_passed (bound ∷ others) zero row d = refl
set_is_passed (bound ∷ others) (suc n) row d = ap (λ (bounds : List RunningBound). bound ∷ bounds) (set_is_passed others n row d)

-- ---- the sum

bound_small : (bound : RunningBound) → bound.ceiling < 2 ^ 32 → bound_now bound ≤ 4_294_967_295
bound_small bound small = go (first_rate bound.runs)
  where
    go : (limit : Option ℕ) → at_most bound.ceiling limit ≤ 4_294_967_295
    go None = omega (arith, small)
    go (Some limit) = omega (arith, small)

sum_small : (bounds : List RunningBound) → AreSmall bounds → sum_by bound_now bounds ≤ 4_294_967_295 * length bounds
sum_small [] small = omega arith
sum_small (bound ∷ others) small =
    let one = bound_small bound small.0 in
    let rest = sum_small others small.1 in
    let both = sum_by-cons bound_now bound others in
    omega (arith, one, rest, both)

pub shared_small : (bounds : List RunningBound) → AreSmall bounds → length bounds ≤ 2 ^ 32 → shared_now bounds < 2 ^ 64
shared_small [] small few = omega arith
shared_small (point ∷ others) small few = let all = sum_small others small.1 in omega (arith, all, few)

-- the change of the sum with one of its bounds, other than the first, which isn't in the sum
pub shared_set : (bounds : List RunningBound) (n : ℕ) (new d : RunningBound) → 0 < n → n < length bounds
    → shared_now (slice_set bounds n new) + bound_now (get_or bounds n d) ≡ shared_now bounds + bound_now new
shared_set [] n new d some inside = absurd (omega (arith, inside))
shared_set (point ∷ others) zero new d some inside = absurd (omega (arith, some))
shared_set (point ∷ others) (suc n) new d some inside = sum_by-set bound_now others n new d (omega (arith, inside))

part_of : (others : List RunningBound) (n : ℕ) (d : RunningBound) → n < length others → bound_now (get_or others n d) ≤ sum_by bound_now others
part_of [] n d inside = absurd (omega (arith, inside))
part_of (bound ∷ others) zero d inside = let both = sum_by-cons bound_now bound others in omega (arith, both)
part_of (bound ∷ others) (suc n) d inside =
    let both = sum_by-cons bound_now bound others in
    let rest = part_of others n d (omega (arith, inside)) in
    omega (arith, both, rest)

shared_has : (bounds : List RunningBound) (n : ℕ) (d : RunningBound) → 0 < n → n < length bounds → bound_now (get_or bounds n d) ≤ shared_now bounds
shared_has [] n d some inside = absurd (omega (arith, inside))
shared_has (point ∷ others) zero d some inside = absurd (omega (arith, some))
shared_has (point ∷ others) (suc n) d some inside = part_of others n d (omega (arith, inside))

set_at : (bounds : List RunningBound) (n : ℕ) (new d : RunningBound) → n < length bounds → get_or (slice_set bounds n new) n d ≡ new
set_at [] n new d inside = absurd (omega (arith, inside))
set_at (bound ∷ others) zero new d inside = refl
set_at (bound ∷ others) (suc n) new d inside = set_at others n new d (omega (arith, inside))

-- a bound that was read, passed and written back
pub written : (bounds : List RunningBound) (n row : ℕ) (new read : RunningBound) → new ≡ bound_passed row read → read ≡ get_or bounds n read → slice_set bounds n new ≡ passed_in n row bounds
written bounds n row new read new_is read_is = ap (slice_set bounds n) (new_is ∙ ap (bound_passed row) read_is) ∙ set_is_passed bounds n row read

pub row_inside : (bounds : List RunningBound) (n row : ℕ) (read : RunningBound) → n < length bounds → row < row_count bounds n → read ≡ get_or bounds n read → row < length read.runs
row_inside bounds n row read inside has is =
    subst (λ (bound : RunningBound). row < length bound.runs) (sym is) (subst (λ (many : ℕ). row < many) (rows_of bounds n read inside) has)

pub record IsSumAfter (sum before after shared : ℕ) : Type 0 where
  pub is : sum - before + after ≡ shared
  pub fits : sum - before + after < 2 ^ 64
  pub part : before ≤ sum

pub sum_after : (bounds : List RunningBound) (n row : ℕ) (new read first second : RunningBound) (before after sum : ℕ) → 0 < n → n < length bounds → AreSmall bounds → length bounds ≤ 2 ^ 32 → sum ≡ shared_now bounds
    → new ≡ bound_passed row read → read ≡ get_or bounds n read → first ≡ get_or bounds n first → before ≡ bound_now first → second ≡ get_or (slice_set bounds n new) n second → after ≡ bound_now second
    → IsSumAfter sum before after (shared_now (slice_set bounds n new))
sum_after bounds n row new read first second before after sum some inside small few sum_is new_is read_is first_is before_is second_is after_is =
    let list = written bounds n row new read new_is read_is in
    let old : before ≡ bound_now (get_or bounds n first) = before_is ∙ ap bound_now first_is in
    let now : after ≡ bound_now new = after_is ∙ ap bound_now (second_is ∙ set_at bounds n new second inside) in
    let moved = shared_set bounds n new first some inside in
    let part = shared_has bounds n first some inside in
    let less : shared_now (slice_set bounds n new) < 2 ^ 64 = subst (λ (bounds : List RunningBound). shared_now bounds < 2 ^ 64) (sym list)
    (shared_small (passed_in n row bounds) (small_kept n row bounds small) (omega (arith, few, length_kept n row bounds))) in
    record {
      is = omega (arith, old, now, moved, part, sum_is);
      fits = omega (arith, old, now, moved, part, sum_is, less);
      part = omega (arith, old, part, sum_is);
    }
