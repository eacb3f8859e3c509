-- Each removed zero is one power of ten.
use Rattle.std.proofs.Common.{◌≡◌, ◌*◌, ◌^◌, ◌<◌}
use Rattle.ocpp_scalars.proofs.number.without_zeros.Given as goal

abbrev pub invariant-loop : goal.invariant-loop
invariant-loop l = (l.value * 10 ^ l.counter ≡ l.digits) × (0 < l.value)
