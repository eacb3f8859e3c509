-- The remaining rows give the same value as all rows, because no row before them has the name.
use Rattle.std.proofs.Common.{◌≡◌, drop, map}
use Rattle.profile.specs.Names.{named_in}
use Rattle.profile.proofs.names.named_in.Given as goal

abbrev pub invariant-loop-name : goal.invariant-loop-name
invariant-loop-name g l =
    named_in (map (λ row. (row.0.now, row.1)) (drop l.name-index l.table)) l.text
    ≡ named_in (map (λ row. (row.0.now, row.1)) l.table) l.text
