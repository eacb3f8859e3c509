-- Removing a zero divides by ten; with all removed the value is the quotient.
use Rattle.std.proofs.Common.{◌≡◌, ◌*◌, ◌^◌, sym, ap, ◌∙◌, arith}
use Rattle.ocpp_scalars.proofs.Scaling.{scaled-lowered, lowered_step}
use Rattle.ocpp_scalars.proofs.number.without_zeros.Goals as goal

pub loop-preserved : goal.loop-preserved
loop-preserved c = lowered_step c.args.digits c.loop.counter c.loop.value c.loop.invariant.0 c.if-value-ne0.false c.loop.invariant.1

pub returns : goal.returns
returns c =
    let all : c.loop.counter ≡ c.args.zeros = omega arith in
    let whole : c.loop.value * 10 ^ c.args.zeros ≡ c.args.digits = ap (λ k. c.loop.value * 10 ^ k) (sym all) ∙ c.loop.invariant.0 in
    sym (scaled-lowered c.args.digits c.args.zeros c.loop.value c.requires.zeros whole)
