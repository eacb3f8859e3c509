-- Case analysis of tests and of steps that may fail.
use Rattle.std.proofs.Common.{◌≡◌, Bool, true, false, if◌then◌else◌, ◌||◌, ◌⊎◌, inl, inr, Option, Some, None, option_map, refl}
use Rattle.ocpp_scalars.specs.OptionSteps.{◌>>=◌}

some_is_not_none : {T : Type 0} → (y : T) → ◌≡◌ {A = Option T} None (Some y) → ⊥
some_is_not_none y e = cc

pub by_test : {P : Type 0} → (t : Bool) → (t ≡ true → P) → (t ≡ false → P) → P
by_test true held failed = held refl
by_test false held failed = failed refl

-- a step with a value started from a value
pub step-some : {T U : Type 0} {f : T → Option U} (o : Option T) (y : U) → (o >>= f) ≡ Some y → (x : T) × (o ≡ Some x) × (f x ≡ Some y)
step-some None y e = absurd (some_is_not_none y e)
step-some (Some x) y e = (x, refl, e)

pub same-some : {T : Type 0} {x y : T} → ◌≡◌ {A = Option T} (Some x) (Some y) → x ≡ y
same-some e = cc

pub map-some : {T U : Type 0} → (f : T → U) (o : Option T) (y : U) → option_map f o ≡ Some y → (x : T) × (o ≡ Some x) × (f x ≡ y)
map-some f None y e = absurd (some_is_not_none y e)
map-some f (Some x) y e = (x, refl, (cc))

-- a test that gave a value held
pub test-some : {T : Type 0} → (t : Bool) (x y : T) → (if t then Some x else None) ≡ Some y → (t ≡ true) × (x ≡ y)
test-some true x y e = (refl, (cc))
test-some false x y e = absurd (some_is_not_none y e)

pub test-none : {T : Type 0} → (t : Bool) (x y : T) → (if t then None else Some x) ≡ Some y → (t ≡ false) × (x ≡ y)
test-none true x y e = absurd (some_is_not_none y e)
test-none false x y e = (refl, (cc))

pub or-true : (a b : Bool) → a || b ≡ true → (a ≡ true) ⊎ (b ≡ true)
or-true true b e = inl refl
or-true false b e = inr e
