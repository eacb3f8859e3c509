-- The gathered bounds and queue are those of a sweep at the start.
use Rattle.std.proofs.Common.{◌∙◌, ap, sym, subst, refl, length, List}
use Rattle.meaning.specs.View.{point_state}
use Rattle.sweep_compiler.specs.ByCases.Running.{RunningBound}
use Rattle.sweep_compiler.specs.ByCases.Swept.{AreAtStart, AreWaiting, shared_now}
use Rattle.sweep_compiler.proofs.AtStart.{swept_at_start, ahead_at_start, all_small, all_few}
use Rattle.sweep_compiler.proofs.gathering.Gathering.curve.Goals as goal

pub shared-sum-requires : goal.shared-sum-requires
shared-sum-requires c =
    let self = c.args.self.now in
    let are = subst (AreAtStart (point_state self.view) c.args.connector self.asked self.last) (sym c.as_slice.ensures.value) c.in_ok-bounds.ensures.bounds in
    record {
      small = all_small (point_state self.view) c.args.connector self.asked self.last c.as_slice.result.now are;
      few = all_few (point_state self.view) c.args.connector self.asked self.last c.as_slice.result.now are self.numbered;
    }

pub returns-clause-curve : goal.returns-clause-curve
returns-clause-curve c =
    let self = c.args.self.now in
    let state = point_state self.view in
    let bounds = c.in_ok-bounds.bounds.items in
    let queue = c.in_ok-queue.queue in
    let sum = c.shared-sum.ensures ∙ ap shared_now c.as_slice.ensures.value in
    let waiting = subst (λ (bounds : List RunningBound). AreWaiting bounds (length bounds) 0 queue) c.as_slice-2.ensures.value c.in_ok-queue.ensures in
    record {
      view_is = refl;
      connector_is = refl;
      asked_is = refl;
      last_is = refl;
      at_is = refl;
      ready = record {
        swept = swept_at_start state c.args.connector self.asked self.last bounds queue c.shared-sum.result c.in_ok-bounds.ensures.bounds self.numbered sum waiting;
        ahead = ahead_at_start state c.args.connector self.asked self.last bounds queue c.in_ok-bounds.ensures.bounds waiting;
        short = c.requires.short;
      };
    }
