-- Each line adds its key, or ends the reading.
use Rattle.std.proofs.Common.{sym, arith}
use Rattle.std.proofs.lemmas.Result.{err_from_is_err_and}
use Rattle.site_keys.specs.ByCases.KeyFile.{keys_in}
use Rattle.site_keys.proofs.CutLemmas.{cut_some, shorter}
use Rattle.site_keys.proofs.FileLemmas.{line_goes, last_line_goes, fault_at_line, fault_at_last_line}
use Rattle.site_keys.proofs.keys.read_keys.Goals as goal

pub returns-in_err-add_line : goal.returns-in_err-add_line
returns-in_err-add_line c =
    let exit = err_from_is_err_and c.from_residual.result c.from_residual.ensures.1 in
    rw (exit.1, exit.2)
    (fault_at_line c.in_err-add_line.field-0.0 c.loop-line.keys.items c.add_line.new.keys.items c.loop-line.number
    c.loop-line.rest.now c.in-Some.line.now c.in-Some.others.now (keys_in c.args.bytes.now) c.in-Some.ensures
    c.loop-line.invariant.same c.in_err-add_line.ensures)

pub loop-line-preserved : goal.loop-line-preserved
loop-line-preserved c =
    let old = c.loop-line in
    let left = shorter 10 old.rest.now c.in-Some.line.now c.in-Some.others.now
    (cut_some 10 old.rest.now c.in-Some.line.now c.in-Some.others.now (sym c.in-Some.ensures)) in
    let before = old.invariant.number in
    record {
      same = line_goes old.keys.items c.add_line.new.keys.items old.number old.rest.now c.in-Some.line.now
          c.in-Some.others.now (keys_in c.args.bytes.now) c.in-Some.ensures old.invariant.same c.in_ok-add_line.ensures;
      number = omega (arith, left, before);
    }

pub returns-in_err-add_line-2 : goal.returns-in_err-add_line-2
returns-in_err-add_line-2 c =
    let exit = err_from_is_err_and c.from_residual-in_err-add_line-2.result
    c.from_residual-in_err-add_line-2.ensures.1 in
    rw (exit.1, exit.2)
    (fault_at_last_line c.in_err-add_line-2.field-0.0 c.loop-line.keys.items c.add_line-2.new.keys.items
    c.loop-line.number c.loop-line.rest.now (keys_in c.args.bytes.now) c.in_default.ensures
    c.loop-line.invariant.same c.in_err-add_line-2.ensures)

pub returns : goal.returns
returns c =
    last_line_goes c.loop-line.keys.items c.add_line-2.new.keys.items c.loop-line.number c.loop-line.rest.now
    (keys_in c.args.bytes.now) c.in_default.ensures c.loop-line.invariant.same c.in_ok-add_line-2.ensures
