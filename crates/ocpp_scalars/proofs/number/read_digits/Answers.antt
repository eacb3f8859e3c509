-- The room for all digits bounds the value at each of them.
use Rattle.std.proofs.Common.{◌+◌, ◌-◌, ◌*◌, ◌^◌, length, get_or, sym, ◌∙◌, arith}
use Rattle.ocpp_scalars.proofs.Scaling.{room_now, room_step}
use Rattle.ocpp_scalars.proofs.Texts.{AreDigits-next, value_after-next}
use Rattle.ocpp_scalars.proofs.number.read_digits.Goals as goal

pub overflow_mul-value : goal.overflow_mul-value
overflow_mul-value c =
    omega (arith, room_now c.loop-digit.value c.args.digits.now c.loop-digit.digit-index ((c.args.start + 1) * 10 ^ length c.args.digits.now) (omega arith) c.loop-digit.invariant.2)

pub overflow_add-value : goal.overflow_add-value
overflow_add-value c =
    omega (arith, room_now c.loop-digit.value c.args.digits.now c.loop-digit.digit-index ((c.args.start + 1) * 10 ^ length c.args.digits.now) (omega arith) c.loop-digit.invariant.2, AreDigits-next c.args.digits.now c.loop-digit.digit-index (omega arith) c.loop-digit.invariant.1)

pub loop-digit-preserved : goal.loop-digit-preserved
loop-digit-preserved c =
    let ds = c.args.digits.now in
    let i = c.loop-digit.digit-index in
    let next = AreDigits-next ds i (omega arith) c.loop-digit.invariant.1 in (
      sym (value_after-next c.loop-digit.value ds i (omega arith)) ∙ c.loop-digit.invariant.0,
      next.1,
      room_step c.loop-digit.value (get_or ds i 0 - 48) ds i ((c.args.start + 1) * 10 ^ length ds) (omega arith) (omega (arith, next.0)) c.loop-digit.invariant.2,
    )
