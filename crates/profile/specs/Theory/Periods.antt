-- Lemmas that crates above cite: nothing here has to be believed.
-- In a list of periods in order, those that have begun at an offset come first.
use Rattle.std.proofs.Common.{◌≡◌, ℕ, ◌+◌, ◌<◌, ◌≤◌, zero, suc, nat_lt, nat_le, true, List, [], ◌∷◌, length, get_or, arith}
use Rattle.std.specs.List.Sorted.{IsPartitionedBy}
use Rattle.std.proofs.lemmas.List.Sorted.{IsPartitionedBy-leb, IsNonDecreasingBy-from_all_adjacent}
use Rattle.std.proofs.lemmas.Bool.{and_parts}
use Rattle.std.proofs.lemmas.Bool.Decides.{nat_tests}
use Rattle.profile.specs.declared.period.Period.{Period}
use Rattle.profile.specs.Periods.{are_in_order}

-- no period starts before the one before it
adjacent : (ps : List Period) → are_in_order ps ≡ true → (k : ℕ) (d : Period) → k + 1 < length ps → (get_or ps k d).start ≤ (get_or ps (k + 1) d).start
adjacent [] ordered k d inside = absurd (omega arith)
adjacent (p ∷ []) ordered k d inside = absurd (omega arith)
adjacent (p ∷ (q ∷ ps)) ordered zero d inside =
    let parts = and_parts (nat_lt p.start q.start) (are_in_order (q ∷ ps)) ordered in grind (arith, nat_tests)
adjacent (p ∷ (q ∷ ps)) ordered (suc k) d inside =
    let parts = and_parts (nat_lt p.start q.start) (are_in_order (q ∷ ps)) ordered in
    let next : suc k + 1 ≡ suc (k + 1) = omega arith in
    rw next (adjacent (q ∷ ps) parts.1 k d (omega arith))

-- the periods that have begun at an offset come first
pub partitioned : (ps : List Period) (o : ℕ) → are_in_order ps ≡ true → IsPartitionedBy (λ (p : Period). nat_le p.start o) ps
partitioned ps o ordered =
    IsPartitionedBy-leb (λ (p : Period). p.start) ps o (IsNonDecreasingBy-from_all_adjacent (λ (p : Period). p.start) ps (adjacent ps ordered))
