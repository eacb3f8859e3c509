-- For private clauses: the texts of a call's fields that are neither objects nor lists.
use Rattle.std.specs.Prelude.{ℕ, List}
use Rattle.std.specs.Fmt.{decimal, signed_decimal}
use Rattle.ocpp_scalars.specs.Writing.{tenths_text}
use Rattle.messages.specs.Names.{kind_name, purpose_name, recurrency_name, unit_text}
use Rattle.messages.specs.ObjectText.{string_text, time_text}
use Rattle.messages.specs.declared.field_value.FieldValue.{FieldValue}
use Rattle.messages.specs.declared.field_value.FieldValue.TheVariants.{Whole, Signed, Tenths, Time, PurposeName, KindName, RecurrencyName, UnitName}

abbrev pub value_text : FieldValue → List ℕ
value_text (Whole number) = decimal number
value_text (Signed number) = signed_decimal number
value_text (Tenths tenths) = tenths_text tenths
value_text (Time instant) = time_text instant
value_text (PurposeName purpose) = string_text (purpose_name purpose)
value_text (KindName kind) = string_text (kind_name kind)
value_text (RecurrencyName recurrency) = string_text (recurrency_name recurrency)
value_text (UnitName unit) = string_text (unit_text unit)
