-- After an action, the call in flight still fits the book.
use Rattle.sim_point_core.proofs.StateLemmas.{flight-kept}
use Rattle.sim_point_core.proofs.point.SimPoint.on_action.Goals as goal

pub invariant_of-self-in_default : goal.invariant_of-self-in_default
invariant_of-self-in_default c = record {
  within = c.self.invariant.within;
  few = c.self.invariant.few;
  fits = flight-kept c.self.inside.unit c.self.inside.book c.answer_action.new.book c.args.now c.args.action c.self.inside.in_flight c.in_ok-answer_action-in_default.ensures.book c.self.invariant.fits;
}
