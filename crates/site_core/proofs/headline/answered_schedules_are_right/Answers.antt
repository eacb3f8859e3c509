-- By the invariant of a history and the state that it leads to.
use Rattle.std.proofs.Common.{refl}
use Rattle.site_core.specs.State.{opening_at}
use Rattle.site_core.proofs.TakenRequests.{run_right}
use Rattle.site_core.proofs.headline.answered_schedules_are_right.Goals as goal

pub returns : goal.returns
returns c = λ site numbers steps outcomes state runs. run_right (opening_at site numbers) steps outcomes state refl runs
