-- The sum over a range with one more number.
use Rattle.std.proofs.Common.{◌≡◌, ℕ, ◌+◌, Bool, true, false, List, [], ◌∷◌, filter, cond, ap, ◌∙◌, min, arith}
use Rattle.std.specs.List.{range_with_len, sum_by}
use Rattle.std.proofs.lemmas.List.Elements.{filter-append}
use Rattle.std.proofs.lemmas.List.Sums.{sum_by-append}
use Rattle.meaning.specs.Theory.Ranges.{range_more}

-- the step of a sum over the numbers of a range that pass a test
pub sum_passing_more : (give : ℕ → ℕ) (test : ℕ → Bool) (a n j : ℕ) → a + n ≡ j
    → sum_by give (filter test (range_with_len a (n + 1)))
    ≡ cond (test j) (sum_by give (filter test (range_with_len a n)) + give j) (sum_by give (filter test (range_with_len a n)))
sum_passing_more give test a n j h =
    ap (λ (ns : List ℕ). sum_by give (filter test ns)) (range_more a n j h)
    ∙ (ap (sum_by give) (filter-append test (range_with_len a n) (j ∷ []))
    ∙ (sum_by-append give (filter test (range_with_len a n)) (filter test (j ∷ [])) ∙ go (test j)))
  where
    before : ℕ
    before = sum_by give (filter test (range_with_len a n))

    go : (b : Bool) → before + sum_by give (cond b (j ∷ []) []) ≡ cond b (before + give j) before
    go true = omega arith
    go false = omega arith

-- adding to a capped sum, and capping again, is the same as capping the whole sum
pub min_more : (most sum whole n : ℕ) → sum ≡ min most whole → min most (sum + n) ≡ min most (whole + n)
min_more most sum whole n h = omega arith
