-- A compiler's answer is the exact one, unless memory ran out.
use Rattle.std.proofs.Common.{refl}
use Rattle.sim_point_core.proofs.answer.compile.Goals as goal

pub returns-in-Ok : goal.returns-in-Ok
returns-in-Ok c =
    let right = rw c.view.ensures.state at c.in-Ok.ensures in
    let is = (c.exact_schedules.ensures.answer _ _ c.in-Ok.schedule c.args.ask.some).0 right in
    rw is refl
