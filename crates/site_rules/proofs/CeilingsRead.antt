use Rattle.std.proofs.Common.{ℕ, List, ◌++◌, Result, Ok, Err}
use Rattle.site_rules.specs.declared.fault.SiteFault.{SiteFault}

-- the ceilings read so far, before those of the rest
abbrev pub with_front : List ℕ → Result (List ℕ) SiteFault → Result (List ℕ) SiteFault
with_front front (Ok ceilings) = Ok (front ++ ceilings)
with_front front (Err fault) = Err fault
