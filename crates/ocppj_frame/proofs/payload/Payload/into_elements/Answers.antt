-- The elements of a list are the trees of its values.
use Rattle.std.proofs.Common.{◌∙◌, ap, Some, map}
use Rattle.ocppj_frame.specs.Payload.{value_tree}
use Rattle.ocppj_frame.proofs.TreeParts.{value_list}
use Rattle.ocppj_frame.proofs.payload.Payload.into_elements.Goals as goal

pub returns-in-Array : goal.returns-in-Array
returns-in-Array c = ap (λ vs. Some (map value_tree vs)) c.into_iter.ensures.rest ∙ value_list _ c.in-Array.values c.in-Array.is c.args.self.marked
