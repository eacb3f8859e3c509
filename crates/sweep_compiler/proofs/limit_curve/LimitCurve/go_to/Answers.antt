-- The sweep may go to the soonest instant, and has passed it once no row waits for it.
use Rattle.std.proofs.Common.{refl, arith}
use Rattle.meaning.specs.View.{point_state}
use Rattle.sweep_compiler.proofs.LeadingOn.{swept_later, all_ahead}
use Rattle.sweep_compiler.proofs.TakenRows.{differ}
use Rattle.sweep_compiler.proofs.limit_curve.LimitCurve.go_to.Goals as goal

pub loop-next-init : goal.loop-next-init
loop-next-init c =
    let self = c.args.self.now in
    record {
      swept = swept_later (point_state self.view) self.connector self.asked self.last self.at c.args.next self.bounds.items self.queue self.sum c.requires.ready.swept c.requires.soonest;
      at = refl;
      same = record { view = refl; connector = refl; asked = refl; last = refl };
    }

pub returns-clause-ready : goal.returns-clause-ready
returns-clause-ready c =
    let self = c.loop-next.self in
    let kept = c.loop-next.invariant in
    let last = kept.same.last in
    let asked = kept.same.asked in
    let short = c.requires.ready.short in
    record {
      swept = kept.swept;
      ahead = all_ahead (point_state self.view) self.connector self.asked self.last self.at self.bounds.items self.queue self.sum c.soonest.result kept.swept c.soonest.ensures
          (differ c.soonest.result self.at c.args.next c.eq.result c.eq.ensures c.loop-next-test.false kept.at);
      short = omega (arith, last, asked, short);
    }
