-- The sooner of two, by cases: only for the clause of `sooner`.
use Rattle.std.specs.Prelude.{Option, Some, None}
use Rattle.std.specs.Ordering.{ord_min}
use Rattle.std.specs.declared.cmp.Ordering.{Ordering}

-- the lesser of two by an order, or the only one
abbrev pub sooner : {X : Type 0} → (X → X → Ordering) → Option X → Option X → Option X
sooner order None b = b
sooner order (Some a) None = Some a
sooner order (Some a) (Some b) = Some (ord_min order a b)
