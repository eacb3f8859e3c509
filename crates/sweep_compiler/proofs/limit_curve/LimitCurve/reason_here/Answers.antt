-- The cause is the sum only in a request for the whole point.
use Rattle.std.proofs.Common.{◌∙◌, ap, sym}
use Rattle.meaning.specs.Cause.{Bound}
use Rattle.meaning.specs.View.{point_state}
use Rattle.sweep_compiler.proofs.ReasonNow.{sum_is_whole}
use Rattle.sweep_compiler.proofs.limit_curve.LimitCurve.reason_here.Goals as goal

pub shares_here-requires : goal.shares_here-requires
shares_here-requires c =
    let self = c.args.self.now in
    record {
      ready = c.requires.ready;
      within = c.requires.within;
      whole = sum_is_whole (point_state self.view) self.connector self.asked self.at (ap (λ (bound : Bound). bound.cause) (sym (c.bound.view_is ∙ c.bound_here-bound.ensures)) ∙ c.in-Sum.is);
    }
