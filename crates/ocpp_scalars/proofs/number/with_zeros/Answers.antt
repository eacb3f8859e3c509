-- An appended zero multiplies by ten; past the bound no further zero leads back.
use Rattle.std.proofs.Common.{arith}
use Rattle.ocpp_scalars.proofs.Scaling.{scaled-over, raised_step}
use Rattle.ocpp_scalars.proofs.number.with_zeros.Goals as goal

pub returns-then-value-most-clause-none : goal.returns-then-value-most-clause-none
returns-then-value-most-clause-none c =
    scaled-over c.args.most c.args.digits c.args.zeros c.loop.counter c.loop.value c.loop.invariant.0 (omega arith) (omega arith)

pub loop-preserved : goal.loop-preserved
loop-preserved c = raised_step c.args.digits c.loop.counter c.loop.value c.loop.invariant.0 c.loop.invariant.1
