-- One more write, and one that fails.
use Rattle.std.proofs.Common.{◌≡◌, ◌-◌, false, length, drop, refl, sym, ◌∙◌, ap, subst, slice_range, arith, rules, Err}
use Rattle.std.proofs.lemmas.List.{places}
use Rattle.std.proofs.lemmas.Result.{err_from_is_err_and}
use Rattle.append_log.specs.Contents.{MayLeave}
use Rattle.append_log.specs.History.{History, LeavesOnly}
use Rattle.append_log.specs.Writing.{with_first}
use Rattle.append_log.proofs.Moments.{at_start}
use Rattle.append_log.proofs.Writes.{some_of_all, wrote, fails}
use Rattle.append_log.proofs.log.write_rest.Goals as goal

pub loop-in_file-init : goal.loop-in_file-init
loop-in_file-init g c =
    let was = g.F.AppendedFile.history c.args.file.now in
    let bytes = c.args.bytes.now in
    let P = MayLeave (with_first was.now bytes (length bytes) false) in
    record {
      within = c.requires.within;
      refusals = refl;
      now = c.requires.begun;
      moments = at_start P was (subst (LeavesOnly P) (sym c.requires.begun) (some_of_all was.now bytes c.args.in_file.now false));
    }

pub returns-in_err-in_file-clause-any_moment : goal.returns-in_err-in_file-clause-any_moment
returns-in_err-in_file-clause-any_moment g c =
    let mid = g.F.AppendedFile.history c.loop-in_file.file in
    let done = c.loop-in_file.in_file in
    let bytes = c.args.bytes.now in
    let told = err_from_is_err_and c.from_residual.result c.from_residual.ensures.1 in
    let told_is = told.1 ∙ ap Err told.2 in
    fails (g.F.AppendedFile.history c.args.file.now) mid _ bytes (slice_range bytes done (length bytes)) done c.from_residual.result c.in_err-in_file.field-0.0 told_is
    c.loop-in_file.invariant.now c.loop-in_file.invariant.moments c.in_err-in_file.ensures.history

pub loop-in_file-preserved : goal.loop-in_file-preserved
loop-in_file-preserved g c =
    let was = g.F.AppendedFile.history c.args.file.now in
    let mid = g.F.AppendedFile.history c.loop-in_file.file in
    let new = g.F.AppendedFile.history c.append.new.self in
    let bytes = c.args.bytes.now in
    let done = c.loop-in_file.in_file in
    let rest = slice_range bytes done (length bytes) in
    let rest_is : rest ≡ drop done bytes = search (rules, places) in
    let rest_length : length rest ≡ length bytes - done = search (rules, places) in
    let so_far = c.loop-in_file.invariant in
    let next = wrote was mid new bytes rest done c.in_ok-in_file.field-0 so_far.now rest_is so_far.moments c.in_ok-in_file.ensures.history in
    record {
      within = omega (arith, rest_length, c.in_ok-in_file.ensures.count.0, so_far.within);
      refusals = ap (λ (h : History). h.refusals) c.in_ok-in_file.ensures.history ∙ so_far.refusals;
      now = next.0;
      moments = next.1;
    }
