-- The digits passed so far, with those to come, are the digits at the beginning of the text.
use Rattle.std.proofs.Common.{◌≡◌, ◌++◌, take, drop}
use Rattle.ocpp_scalars.specs.ByCases.Digits.{digits_of, after_digits}
use Rattle.ocpp_scalars.proofs.number_text.split_digits.Given as goal

abbrev pub invariant-loop-count : goal.invariant-loop-count
invariant-loop-count l =
    (take l.count l.text ++ digits_of (drop l.count l.text) ≡ digits_of l.text)
    × (after_digits (drop l.count l.text) ≡ after_digits l.text)
