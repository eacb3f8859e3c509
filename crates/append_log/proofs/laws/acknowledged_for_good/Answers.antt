-- The moments of one call, and of calls one after another.
use Rattle.append_log.specs.Contents.{IsFirstPart, MayLeave}
use Rattle.append_log.proofs.Lines.{part_of_part}
use Rattle.append_log.proofs.Moments.{joined, weaker}
use Rattle.append_log.proofs.laws.acknowledged_for_good.Goals as goal

pub returns-clause-call : goal.returns-clause-call
returns-clause-call c bytes contents old new part moments =
    weaker (MayLeave contents) (IsFirstPart bytes) (λ left may. part_of_part bytes contents.synced left part (may.behind, may.is)) old new moments

pub returns-clause-calls : goal.returns-clause-calls
returns-clause-calls c bytes first second third earlier later = joined (IsFirstPart bytes) first second third earlier later
