-- The next start among periods in order is that of the first period that hasn't begun.
use Rattle.std.proofs.Common.{◌≡◌, ℕ, ◌<◌, ◌≤◌, ◌==◌, nat_le, true, false, List, length, get_or, ⊎_elim, arith}
use Rattle.std.specs.List.Sorted.{IsPartitionPoint}
use Rattle.std.proofs.lemmas.List.Folds.{list_any_at, list_any_none}
use Rattle.std.proofs.lemmas.List.{get_or_default}
use Rattle.std.proofs.lemmas.Bool.{cases_lt}
use Rattle.std.proofs.lemmas.Bool.Decides.{nat_tests}
use Rattle.profile.specs.declared.period.Period.{Period}
use Rattle.profile.specs.Periods.{are_in_order}
use Rattle.profile.specs.Theory.Periods.{partitioned}
use Rattle.recurrence.specs.ByCases.Next.{IsFirstAfter, is_start}

abbrev pub IsBegunUpTo : List Period → ℕ → ℕ → Type 0
IsBegunUpTo periods offset i = IsPartitionPoint (λ (p : Period). nat_le p.start offset ≡ true) (λ (p : Period). nat_le p.start offset ≡ false) periods i

-- at such an offset no period starts: neither those that have begun, nor the first of the others or
-- a later one
between : (periods : List Period) (i offset k : ℕ) → are_in_order periods ≡ true → IsBegunUpTo periods offset i → offset < k
    → ((d : Period) → i < length periods → k < (get_or periods i d).start) → is_start periods k ≡ false
between periods i offset k ordered point later early = list_any_none (λ (p : Period). k == p.start) periods each
  where
    each : (j : ℕ) (d : Period) → j < length periods → (k == (get_or periods j d).start) ≡ false
    each j d inside = ⊎_elim begun after (cases_lt j i)
      where
        begun : j < i → (k == (get_or periods j d).start) ≡ false
        begun before = let is = point.0 j d (omega arith) before in grind (arith, nat_tests)

        after : i ≤ j → (k == (get_or periods j d).start) ≡ false
        after behind =
            let first = early d (omega arith) in
            let falls = partitioned periods k ordered i j d behind inside in
            ⊎_elim (λ high. grind (arith, nat_tests)) (λ low. absurd (let test : nat_le (get_or periods j d).start k ≡ true = grind (arith, nat_tests) in
            let begun = falls test in let least : (get_or periods i d).start ≤ k = grind (arith, nat_tests) in omega arith)) (cases_lt k (get_or periods j d).start)

pub next_start_at : (periods : List Period) (i offset : ℕ) (d : Period) → are_in_order periods ≡ true → i < length periods → IsBegunUpTo periods offset i
    → IsFirstAfter (is_start periods) offset (get_or periods i d).start
next_start_at periods i offset d ordered inside point = record {
  later = let is = point.1 i d (omega arith) inside in grind (arith, nat_tests);
  passes = list_any_at (λ (p : Period). (get_or periods i d).start == p.start) periods i d inside (grind (arith, nat_tests));
  fails_between = λ k later early. between periods i offset k ordered point later (λ e inner. rw (get_or_default periods i e d inside) early);
}

pub no_next_start : (periods : List Period) (offset : ℕ) → are_in_order periods ≡ true → IsBegunUpTo periods offset (length periods)
    → (k : ℕ) → offset < k → is_start periods k ≡ false
no_next_start periods offset ordered point k later = between periods (length periods) offset k ordered point later (λ d inside. absurd (omega arith))
