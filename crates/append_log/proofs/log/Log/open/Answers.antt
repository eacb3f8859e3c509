-- The cut, and the bytes that a crash leaves meanwhile.
use Rattle.std.proofs.Common.{◌∙◌, ap}
use Rattle.append_log.specs.History.{History}
use Rattle.append_log.proofs.Cuts.{cuts, cut_fails, within_file, cut_contents}
use Rattle.append_log.specs.Contents.{file_of}
use Rattle.append_log.proofs.log.Log.open.Goals as goal

pub cut-requires-clause-within : goal.cut-requires-clause-within
cut-requires-clause-within g c = within_file (file_of (g.F.AppendedFile.history c.args.file).now) c.args.end c.requires.end

pub returns-in-Ok-clause-acknowledged : goal.returns-in-Ok-clause-acknowledged
returns-in-Ok-clause-acknowledged g c =
    let old = g.F.AppendedFile.history c.args.file in
    let pending = c.new.result.items in
    ap (λ (h : History). record h.now { appended = pending }) c.in-Ok.ensures ∙ cut_contents old.now c.args.end pending c.requires.end c.new.ensures.items

pub returns-in-Ok-clause-any_moment : goal.returns-in-Ok-clause-any_moment
returns-in-Ok-clause-any_moment g c = cuts (g.F.AppendedFile.history c.args.file) (g.F.AppendedFile.history c.cut.new.self) c.args.end c.requires.usable c.requires.end c.in-Ok.ensures

pub returns-in-Err-clause-any_moment_err : goal.returns-in-Err-clause-any_moment_err
returns-in-Err-clause-any_moment_err g c = cut_fails (g.F.AppendedFile.history c.args.file) (g.F.AppendedFile.history c.cut.new.self) c.args.end c.requires.usable c.requires.end c.in-Err.ensures
