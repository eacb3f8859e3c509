-- The text before, the fields written so far and the remaining ones make up the whole text.
use Rattle.std.proofs.Common.{◌≡◌, ◌++◌, drop, map, option_map, string_bytes}
use Rattle.std.specs.List.{filter_map}
use Rattle.ocpp_scalars.specs.Appending.{BeginsWith}
use Rattle.messages.specs.ObjectText.{present}
use Rattle.messages.specs.ByCases.FieldValue.{value_text}
use Rattle.messages.specs.ByCases.ObjectText.{rest_text}
use Rattle.messages.proofs.object_text.push_rest.Given as goal

abbrev pub invariant-loop-key : goal.invariant-loop-key
invariant-loop-key l = record {
  text :
      string_bytes l.out ++ rest_text l.some_written (filter_map present (map (λ row. (row.0.now, option_map value_text row.1)) (drop l.key-index l.fields)))
      ≡ string_bytes l.fn.out ++ rest_text l.fn.some_written (filter_map present (map (λ row. (row.0.now, option_map value_text row.1)) l.fields));
  kept : BeginsWith (string_bytes l.out) (string_bytes l.fn.out);
}
