-- The text before, the items written so far and the remaining ones make up the whole text.
use Rattle.std.proofs.Common.{◌≡◌, ◌++◌, drop, map, string_bytes}
use Rattle.ocpp_scalars.specs.Appending.{BeginsWith}
use Rattle.messages.specs.ObjectText.{joined, later_texts}
use Rattle.messages.proofs.list_text.push_joined.Given as goal

abbrev pub invariant-loop-item : goal.invariant-loop-item
invariant-loop-item g l = record {
  text : string_bytes l.out ++ later_texts (map g.T.ListItem.text (drop l.item-index l.later)) ≡ string_bytes l.fn.out ++ joined (map g.T.ListItem.text l.items);
  kept : BeginsWith (string_bytes l.out) (string_bytes l.fn.out);
}
