-- Lemmas that crates above cite: nothing here has to be believed.
-- The sooner of two numbers, by their order.
use Rattle.std.proofs.Common.{◌≡◌, ℕ, ◌==◌, nat_lt, Bool, true, false, cond, Some, refl}
use Rattle.std.specs.Ordering.{is_lt, nat_cmp}
use Rattle.std.specs.declared.cmp.Ordering.TheVariants.{Less, Equal, Greater}
use Rattle.recurrence.specs.ByCases.Sooner.{sooner}

pub sooner_number : (a b : ℕ) → sooner nat_cmp (Some a) (Some b) ≡ cond (nat_lt b a) (Some b) (Some a)
sooner_number a b = go (nat_lt b a) (b == a)
  where
    go : (less same : Bool) → Some (cond (is_lt (cond less Less (cond same Equal Greater))) b a) ≡ cond less (Some b) (Some a)
    go true same = refl
    go false true = refl
    go false false = refl
