-- The laws are in `InstantReadings`.
use Rattle.ocpp_scalars.proofs.InstantReadings.{instant_reading, instant_printed, instant_again}
use Rattle.ocpp_scalars.proofs.laws.instant_texts.Goals as goal

pub returns : goal.returns
returns c = record { reading = instant_reading; printed = instant_printed; again = instant_again }
