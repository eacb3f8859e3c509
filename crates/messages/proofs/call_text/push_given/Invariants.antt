-- The text before, the criteria written so far and the remaining ones make up the whole text.
use Rattle.std.proofs.Common.{◌≡◌, ◌++◌, drop, string_bytes}
use Rattle.std.specs.List.{filter_map}
use Rattle.ocpp_scalars.specs.Appending.{BeginsWith}
use Rattle.messages.specs.CallText.{criteria_text, rest_of_words}
use Rattle.messages.proofs.call_text.push_given.Given as goal

abbrev pub invariant-loop-criterion : goal.invariant-loop-criterion
invariant-loop-criterion l = record {
  text :
      string_bytes l.out ++ rest_of_words l.some_written (filter_map (λ given. given) (drop l.criterion-index l.criteria))
      ≡ string_bytes l.fn.out ++ criteria_text l.criteria;
  kept : BeginsWith (string_bytes l.out) (string_bytes l.fn.out);
}
