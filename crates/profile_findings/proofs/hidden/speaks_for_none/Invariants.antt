-- It may prevail at none of the connectors so far.
use Rattle.profile_findings.specs.Hidden.{SpeaksForNone}
use Rattle.profile_findings.proofs.hidden.speaks_for_none.Given as goal

abbrev pub invariant-loop-before : goal.invariant-loop-before
invariant-loop-before l = SpeaksForNone l.view.rows.now l.before l.row
