-- All rows of the bound wait.
use Rattle.std.proofs.Common.{◌∙◌, length, ap, sym, arith}
use Rattle.sweep_compiler.specs.ByCases.Running.{RunningBound}
use Rattle.sweep_compiler.proofs.PassedRows.{rows_of}
use Rattle.sweep_compiler.proofs.Starting.{next_bound}
use Rattle.sweep_compiler.proofs.gathering.add_rows.Goals as goal

pub add_row-requires : goal.add_row-requires
add_row-requires c =
    let many = rows_of c.args.bounds.now c.args.bound c.index-bounds-bound.result c.requires.has_bound in
    let same = c.len-row-end.ensures ∙ (ap (λ (bound : RunningBound). length bound.runs) c.index-bounds-bound.is ∙ sym many) in
    let inside = c.loop-row-test.true in
    record { has_bound = c.requires.has_bound; has_row = omega (arith, same, inside); before = c.loop-row.invariant }

pub returns : goal.returns
returns c =
    let many = rows_of c.args.bounds.now c.args.bound c.index-bounds-bound.result c.requires.has_bound in
    let same = c.len-row-end.ensures ∙ (ap (λ (bound : RunningBound). length bound.runs) c.index-bounds-bound.is ∙ sym many) in
    let past = c.loop-row-test.false in
    next_bound c.args.bounds.now c.args.bound c.loop-row.row c.loop-row.queue (omega (arith, same, past)) c.loop-row.invariant
