-- Differing bits, collected in one byte.
use Rattle.std.proofs.Common.{◌≡◌, ℕ, ◌+◌, ◌<◌, ◌%◌, List, length, take, get_or, sym, ap, ◌∙◌, arith, bit_or, bit_xor}
use Rattle.std.proofs.Math.Seq.{take-length}
use Rattle.std.proofs.lemmas.List.{take_more_same}
use Rattle.std.specs.Int.Bits.{or_zero_l}
use Rattle.std.specs.Int.{bit_at}
use Rattle.std.proofs.lemmas.Nat.{le_or_l, le_or_r}
use Rattle.std.proofs.lemmas.Nat.Bits.{bit_at-lt, bit_at-zero, bit_at_xor, same_from_bits}

-- nothing differs if no bit was collected
pub nothing_differs : (gathered one other : ℕ) → bit_or gathered (bit_xor one other) ≡ 0
    → (gathered ≡ 0) × (one ≡ other)
nothing_differs gathered one other none =
    let left = le_or_l gathered (bit_xor one other) in
    let right = le_or_r gathered (bit_xor one other) in
    let xor : bit_xor one other ≡ 0 = omega (arith, right, none) in (
      omega (arith, left, none),
      same_from_bits one other (λ i.
          let both = sym (bit_at_xor one other i) ∙ ap (λ n. bit_at n i) xor ∙ bit_at-zero i in
          let first = bit_at-lt one i in
          let second = bit_at-lt other i in
          omega (arith, both, first, second)),
    )

-- the same byte adds nothing
pub xor_same : (n : ℕ) → bit_xor n n ≡ 0
xor_same n = same_from_bits (bit_xor n n) 0 (λ i.
    let twice : (bit_at n i + bit_at n i) % 2 ≡ 0 = omega arith in
    bit_at_xor n n i ∙ twice ∙ sym (bit_at-zero i))

-- bytes that are the same up to the next index
pub same_further : (one other : List ℕ) (place gathered : ℕ) → place < length one → place < length other
    → (gathered ≡ 0 → take place one ≡ take place other)
    → bit_or gathered (bit_xor (get_or one place 0) (get_or other place 0)) ≡ 0
    → take (place + 1) one ≡ take (place + 1) other
same_further one other place gathered first second before none =
    let parts = nothing_differs gathered (get_or one place 0) (get_or other place 0) none in
    take_more_same one other place 0 first second (before parts.0) parts.1

-- the same bytes add no bit
pub none_further : (one other : List ℕ) (place gathered : ℕ) → (one ≡ other → gathered ≡ 0) → one ≡ other
    → bit_or gathered (bit_xor (get_or one place 0) (get_or other place 0)) ≡ 0
none_further one other place gathered before same =
    rw (before same, ← same, xor_same (get_or one place 0)) (or_zero_l 0)

-- whole lists
pub same_whole : (one other : List ℕ) (place : ℕ) → place ≡ length one → place ≡ length other
    → take place one ≡ take place other → one ≡ other
same_whole one other place first second same =
    sym (take-length one) ∙ ap (λ n. take n one) (sym first) ∙ same ∙ ap (λ n. take n other) second ∙ take-length other
