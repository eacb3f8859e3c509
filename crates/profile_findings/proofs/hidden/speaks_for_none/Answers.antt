-- One more connector preserves the invariant.
use Rattle.std.proofs.Common.{◌∙◌, sym}
use Rattle.profile_findings.proofs.ConnectorLemmas.{none_more}
use Rattle.profile_findings.proofs.hidden.speaks_for_none.Goals as goal

pub loop-before-preserved : goal.loop-before-preserved
loop-before-preserved c =
    none_more c.args.view.now.rows.now c.args.row.now c.loop-before.before c.loop-before.invariant (sym c.is_candidate.ensures ∙ c.if-is_candidate.false)
