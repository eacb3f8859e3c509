-- The code's comparison is the one of the definition.
use Rattle.site_core.proofs.EqualLemmas.{request_test}
use Rattle.site_core.proofs.audit.PointAudit.is_judged_by.Goals as goal

pub returns-clause-same : goal.returns-clause-same
returns-clause-same c =
    rw (← c.self.view_is, ← c.audit.ensures.value)
    (request_test c.self.inside.asked c.audit.result.now c.same.result c.same.ensures)
