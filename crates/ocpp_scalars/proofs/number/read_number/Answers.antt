-- A text of at most 32 bytes has at most 32 digits.
use Rattle.std.proofs.Common.{length, arith}
use Rattle.ocpp_scalars.proofs.Scaling.{room_first, room_second}
use Rattle.ocpp_scalars.proofs.number.read_number.Goals as goal

pub read_digits-whole-requires-clause-room : goal.read_digits-whole-requires-clause-room
read_digits-whole-requires-clause-room c = room_first (length c.in-Some.parts.whole.now) (omega (arith, c.in-Some.ensures.fits.lengths))

pub read_digits-digits-requires-clause-room : goal.read_digits-digits-requires-clause-room
read_digits-digits-requires-clause-room c =
    room_second c.read_digits-whole.result (length c.in-Some.parts.whole.now) (length c.in-Some.parts.fraction.now) c.read_digits-whole.ensures.room (omega (arith, c.in-Some.ensures.fits.lengths))

pub read_digits-exponent-requires-clause-room : goal.read_digits-exponent-requires-clause-room
read_digits-exponent-requires-clause-room c = room_first (length c.in-Some.parts.exponent.now) (omega (arith, c.in-Some.ensures.fits.lengths))

pub power-requires-clause-exponent : goal.power-requires-clause-exponent
power-requires-clause-exponent c =
    omega (arith, c.read_digits-exponent.ensures.room, room_first (length c.in-Some.parts.exponent.now) (omega (arith, c.in-Some.ensures.fits.lengths)))

pub returns-clause-digits : goal.returns-clause-digits
returns-clause-digits c =
    omega (arith, c.read_digits-digits.ensures.room, room_second c.read_digits-whole.result (length c.in-Some.parts.whole.now) (length c.in-Some.parts.fraction.now) c.read_digits-whole.ensures.room (omega (arith, c.in-Some.ensures.fits.lengths)))
