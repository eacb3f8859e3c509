-- Each appended zero is one power of ten.
use Rattle.std.proofs.Common.{◌≡◌, ◌*◌, ◌^◌, ◌<◌}
use Rattle.ocpp_scalars.proofs.number.with_zeros.Given as goal

abbrev pub invariant-loop : goal.invariant-loop
invariant-loop l = (l.value ≡ l.digits * 10 ^ l.counter) × (0 < l.value)
