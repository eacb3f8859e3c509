-- The point of one more entry.
use Rattle.std.proofs.Common.{refl, arith}
use Rattle.site_rules.proofs.PartsKept.{found_more}
use Rattle.site_rules.proofs.reading.entries.with_next.Goals as goal

pub returns-clause-found : goal.returns-clause-found
returns-clause-found c =
    let read = c.in_ok-entry.ensures.entry in
    let few = c.if-count-ge-MAX_POINTS.false in
    (read.0, read.1, λ before h. found_more c.args.found _ before c.in_ok-entry.entry read.0 h read.2 (omega arith) refl c.in_ok-with_entry.ensures)
