-- A proof by the two results of a test.
use Rattle.std.proofs.Common.{◌≡◌, Bool, true, false, refl}

pub by_test : {P : Type 0} → (t : Bool) → (t ≡ true → P) → (t ≡ false → P) → P
by_test true held failed = held refl
by_test false held failed = failed refl
