-- If each period starts at an offset or later, none has begun before it.
use Rattle.std.proofs.Common.{◌≡◌, ℕ, ◌<◌, nat_le, true, false, List, [], ◌∷◌, None, refl, arith}
use Rattle.std.specs.List.{list_all}
use Rattle.std.proofs.lemmas.Bool.{and_parts}
use Rattle.std.proofs.lemmas.Bool.Decides.{nat_tests}
use Rattle.profile.specs.declared.period.Period.{Period}
use Rattle.profile.specs.Periods.{limit_in}

pub none_before : (periods : List Period) (end offset : ℕ)
    → list_all (λ (p : Period). nat_le end p.start) periods ≡ true → offset < end
    → limit_in periods offset ≡ None
none_before [] end offset all before = refl
none_before (p ∷ ps) end offset all before =
    let parts = and_parts (nat_le end p.start) (list_all (λ (p : Period). nat_le end p.start) ps) all in
    let first = parts.0 in
    let later : nat_le p.start offset ≡ false = grind (arith, nat_tests) in
    rw later (none_before ps end offset parts.1 before)
