-- The value so far, with the digits to come, is the value of all digits, and there is room for
-- them.
use Rattle.std.proofs.Common.{◌≡◌, ◌+◌, ◌*◌, ◌^◌, ◌≤◌, length, drop}
use Rattle.ocpp_scalars.specs.Digits.{AreDigits, value_after}
use Rattle.ocpp_scalars.proofs.number.read_digits.Given as goal

abbrev pub invariant-loop-digit : goal.invariant-loop-digit
invariant-loop-digit l =
    (value_after l.value (drop l.digit-index l.digits) ≡ value_after l.start l.digits)
    × AreDigits (drop l.digit-index l.digits)
    × ((l.value + 1) * 10 ^ length (drop l.digit-index l.digits) ≤ (l.start + 1) * 10 ^ length l.digits)
