-- Rows stay apart if some are removed, and if one is added that replaces none.
use Rattle.std.proofs.Common.{◌≡◌, ◌<◌, ◌≤◌, Bool, true, false, not, cond, refl, List, [], ◌∷◌, ◌++◌, length, filter, length-append, arith}
use Rattle.std.specs.List.{AllByRecursion}
use Rattle.profile.specs.declared.row.Row.{Row}
use Rattle.profile.specs.Changes.{is_replaced_by, rows_beside, installed}
use Rattle.stacking.specs.Limits.{max_rows}
use Rattle.stacking.specs.Rows.{AreApart, AreRows}

all-filter : {X : Type 0} (P : X → Type 0) (test : X → Bool) (xs : List X) → AllByRecursion P xs → AllByRecursion P (filter test xs)
all-filter P test [] all = tt
all-filter P test (x ∷ xs) all = go (test x) all.0 (all-filter P test xs all.1)
  where
    go : (b : Bool) → P x → AllByRecursion P (filter test xs) → AllByRecursion P (cond b (x ∷ filter test xs) (filter test xs))
    go true here rest = (here, rest)
    go false here rest = rest

all-push : {X : Type 0} (P : X → Type 0) (xs : List X) (x : X) → AllByRecursion P xs → P x → AllByRecursion P (xs ++ x ∷ [])
all-push P [] x all here = (here, tt)
all-push P (y ∷ ys) x all here = (all.0, all-push P ys x all.1 here)

length-filter-le : {X : Type 0} (test : X → Bool) (xs : List X) → length (filter test xs) ≤ length xs
length-filter-le test [] = omega arith
length-filter-le test (x ∷ xs) = go (test x) (length-filter-le test xs)
  where
    go : (b : Bool) → length (filter test xs) ≤ length xs → length (cond b (x ∷ filter test xs) (filter test xs)) ≤ length (x ∷ xs)
    go true few = omega arith
    go false few = omega arith

apart-filter : (test : Row → Bool) (rows : List Row) → AreApart rows → AreApart (filter test rows)
apart-filter test [] apart = tt
apart-filter test (row ∷ rows) apart = go (test row) (all-filter _ test rows apart.0) (apart-filter test rows apart.1)
  where
    go : (b : Bool) → AllByRecursion (λ new. is_replaced_by new row ≡ false) (filter test rows) → AreApart (filter test rows) → AreApart (cond b (row ∷ filter test rows) (filter test rows))
    go true here rest = (here, rest)
    go false here rest = rest

apart-push : (rows : List Row) (new : Row) → AreApart rows → AllByRecursion (λ row. is_replaced_by new row ≡ false) rows → AreApart (rows ++ new ∷ [])
apart-push [] new apart none = (tt, tt)
apart-push (row ∷ rows) new apart none = (all-push _ rows new apart.0 none.0, apart-push rows new apart.1 none.1)

none-beside : (rows : List Row) (new : Row) → AllByRecursion (λ row. is_replaced_by new row ≡ false) (rows_beside rows new)
none-beside [] new = tt
none-beside (row ∷ rows) new = go (is_replaced_by new row) refl (none-beside rows new)
  where
    go : (b : Bool) → is_replaced_by new row ≡ b
        → AllByRecursion (λ (other : Row). is_replaced_by new other ≡ false) (rows_beside rows new)
        → AllByRecursion (λ (other : Row). is_replaced_by new other ≡ false) (cond (not b) (row ∷ rows_beside rows new) (rows_beside rows new))
    go true here rest = rest
    go false here rest = (here, rest)

pub rows-filter : (test : Row → Bool) (rows : List Row) → AreRows rows → AreRows (filter test rows)
rows-filter test rows are = record {
  few = omega (arith, length-filter-le test rows, are.few);
  apart = apart-filter test rows are.apart;
}

pub rows-installed : (rows : List Row) (new : Row) → AreRows rows → length (rows_beside rows new) < max_rows → AreRows (installed rows new)
rows-installed rows new are room = record {
  few = omega (arith, length-append (rows_beside rows new) (new ∷ []), room);
  apart = apart-push (rows_beside rows new) new (apart-filter _ rows are.apart) (none-beside rows new);
}
