-- A verdict is judged again.
use Rattle.std.proofs.Common.{sym, ap, ◌∙◌}
use Rattle.journal.specs.Line.{noted_state}
use Rattle.journal.proofs.RestoreLemmas.{verdict_leads}
use Rattle.journal.proofs.restoring.restore_line.Goals as goal

pub returns-in-Verdict-clause-leads : goal.returns-in-Verdict-clause-leads
returns-in-Verdict-clause-leads g c =
    let line = c.line.inside in
    verdict_leads c.args.book.now.present c.judge_audit.new.book.present c.judge_audit.result
    line.moment line.point.now c.in-Verdict.call c.in-Verdict.frame.now
    c.new-text-in-Verdict.result c.args.line.now c.new-text-in-Verdict.ensures
    (sym c.line.view_is ∙ ap (λ noted. record { moment = line.moment; point = line.point.now; noted = noted_state noted }) c.in-Verdict.is)
    c.judge_audit.ensures
