-- The field of an object is the tree of its member.
use Rattle.std.proofs.Common.{◌∙◌, ap, option_map}
use Rattle.ocppj_frame.proofs.TreeParts.{data_tree, value_field, value_member}
use Rattle.ocppj_frame.proofs.payload.Node.field.Goals as goal

pub returns-in-Some : goal.returns-in-Some
returns-in-Some c = ap (option_map data_tree) c.in-Some.ensures ∙ value_field c.args.name.now _ c.in-Object.members c.in-Object.is c.args.self.marked

pub returns-in-None : goal.returns-in-None
returns-in-None c = ap (option_map data_tree) c.in-None.ensures ∙ value_field c.args.name.now _ c.in-Object.members c.in-Object.is c.args.self.marked

pub invariant_of-result : goal.invariant_of-result
invariant_of-result c = record { marked = value_member c.args.name.now _ c.in-Object.members _ c.in-Object.is c.args.self.marked c.in-Some.ensures }
