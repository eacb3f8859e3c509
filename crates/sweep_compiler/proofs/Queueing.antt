-- The order of the waiting rows in a heap.
use Rattle.std.proofs.Common.{◌≡◌, ℕ, ◌<◌, ◌≤◌, nat_lt, ◌==◌, Bool, true, false, List, [], ◌∷◌, length, drop, cond, refl, ap, sym, subst, arith}
use Rattle.std.specs.Prelude.{slice_index_or}
use Rattle.std.specs.List.{AllByRecursion, Contains}
use Rattle.std.specs.List.Sorted.{IsPermutation}
use Rattle.std.specs.Ordering.{is_lt, nat_cmp}
use Rattle.std.specs.declared.cmp.Ordering.{Ordering}
use Rattle.std.specs.declared.cmp.Ordering.TheVariants.{Less, Equal, Greater}
use Rattle.std.proofs.lemmas.Bool.Decides.{nat_tests}
use Rattle.std.proofs.lemmas.List.Sorted.{IsPermutation-cons, IsPermutation-trans}
use Rattle.sweep_compiler.specs.ByCases.Queue.{Due, IsSoonestOf}

-- the waiting rows are the items of the heap
pub pushed : (due : Due) (old new items : List Due) → old ≡ items → IsPermutation (due ∷ old) new → IsPermutation (due ∷ items) new
pushed due old new items e p = subst (λ (items : List Due). IsPermutation (due ∷ items) new) e p

pub first_of : (due : Due) (xs items : List Due) → xs ≡ items → 0 < length xs → due ≡ slice_index_or xs 0 due → items ≡ due ∷ drop 1 items
first_of due [] items e some is = absurd (omega (arith, some))
first_of due (x ∷ xs) items e some is = subst (λ (items : List Due). items ≡ due ∷ drop 1 items) e (ap (λ (first : Due). first ∷ xs) (sym is))

pub replaced : (due : Due) (old rest new items : List Due) → old ≡ items → IsPermutation (drop 1 old) rest → IsPermutation (due ∷ rest) new → IsPermutation (due ∷ drop 1 items) new
replaced due old rest new items e p q =
    subst (λ (items : List Due). IsPermutation (due ∷ drop 1 items) new) e (IsPermutation-trans (due ∷ drop 1 old) (due ∷ rest) new (IsPermutation-cons due (drop 1 old) rest p) q)

pub removed : (old rest new items : List Due) → old ≡ items → IsPermutation (drop 1 old) rest → IsPermutation rest new → IsPermutation (drop 1 items) new
removed old rest new items e p q = subst (λ (items : List Due). IsPermutation (drop 1 items) new) e (IsPermutation-trans (drop 1 old) rest new p q)

not_less : (a b : ℕ) → is_lt (nat_cmp b a) ≡ false → a ≤ b
not_less a b h = go (nat_lt b a) refl h
  where
    go : (less : Bool) → nat_lt b a ≡ less → is_lt (cond less Less (cond (b == a) Equal Greater)) ≡ false → a ≤ b
    go true less h = cc
    go false less h = grind (arith, nat_tests, less)

-- no item is greater than the first of a heap, so none is due sooner
pub least_of : (due : Due) (xs items : List Due) → xs ≡ items → AllByRecursion (λ (other : Due). is_lt (nat_cmp other.instant due.instant) ≡ false) xs
    → AllByRecursion (λ (other : Due). due.instant ≤ other.instant) items
least_of due xs items e all = subst (λ (items : List Due). AllByRecursion (λ (other : Due). due.instant ≤ other.instant) items) e (go xs all)
  where
    go : (xs : List Due) → AllByRecursion (λ (other : Due). is_lt (nat_cmp other.instant due.instant) ≡ false) xs → AllByRecursion (λ (other : Due). due.instant ≤ other.instant) xs
    go [] all = tt
    go (x ∷ xs) all = (not_less due.instant x.instant all.0, go xs all.1)

pub soonest_of : (due : Due) (xs items : List Due) → xs ≡ items → Contains xs due → AllByRecursion (λ (other : Due). is_lt (nat_cmp other.instant due.instant) ≡ false) xs
    → IsSoonestOf items due.instant
soonest_of due xs items e has all = record {
  item = due;
  waits = subst (λ (items : List Due). Contains items due) e has;
  at = refl;
  least = least_of due xs items e all;
}
