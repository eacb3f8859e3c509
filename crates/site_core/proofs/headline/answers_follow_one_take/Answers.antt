-- A right answer has one Take.
use Rattle.std.proofs.Common.{refl}
use Rattle.site_core.specs.State.{opening_at}
use Rattle.site_core.proofs.TakenRequests.{history_right, right_takes_once}
use Rattle.site_core.proofs.headline.answers_follow_one_take.Goals as goal

pub returns : goal.returns
returns c = λ site numbers earlier later number book ask answer new legal.
    right_takes_once (opening_at site numbers) earlier number book ask answer (history_right (opening_at site numbers) earlier later number book ask answer new refl legal)
