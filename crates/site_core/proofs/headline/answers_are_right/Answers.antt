-- By the invariant of a history and the state that it leads to.
use Rattle.std.proofs.Common.{refl}
use Rattle.site_core.specs.State.{opening_at}
use Rattle.site_core.proofs.TakenRequests.{history_right}
use Rattle.site_core.proofs.headline.answers_are_right.Goals as goal

pub returns : goal.returns
returns c = λ site numbers earlier later number book ask answer new legal. history_right (opening_at site numbers) earlier later number book ask answer new refl legal
