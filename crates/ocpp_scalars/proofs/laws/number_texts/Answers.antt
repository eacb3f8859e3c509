-- The laws are in `NumberReadings` and `TenthsPrinted`.
use Rattle.ocpp_scalars.proofs.NumberReadings.{number_text-found, number_text-only, tenths_reading, whole_reading}
use Rattle.ocpp_scalars.proofs.TenthsPrinted.{tenths_printed, tenths_again}
use Rattle.ocpp_scalars.proofs.laws.number_texts.Goals as goal

pub returns : goal.returns
returns c = record {
  form = λ text. (number_text-found text, number_text-only text);
  tenths = tenths_reading;
  whole = whole_reading;
  printed = tenths_printed;
  again = tenths_again;
}
