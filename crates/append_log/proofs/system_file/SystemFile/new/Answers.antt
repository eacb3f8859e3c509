-- The facts about a file that was opened.
use Rattle.std.proofs.Common.{length, ◌∙◌, sym, ap}
use Rattle.append_log.specs.Contents.{file_of}
use Rattle.append_log.specs.History.{History}
use Rattle.append_log.specs.Lines.{whole_lines}
use Rattle.append_log.specs.Recorded.{opened-usable, opened-end}
use Rattle.append_log.proofs.system_file.SystemFile.new.Goals as goal

pub returns-clause-usable : goal.returns-clause-usable
returns-clause-usable c = ap (λ (h : History). h.now.has_failed) c.note.ensures ∙ opened-usable c.args.end

pub returns-clause-end : goal.returns-clause-end
returns-clause-end c = opened-end c.args.end ∙ sym (ap (λ (h : History). length (whole_lines (file_of h.now))) c.note.ensures)
