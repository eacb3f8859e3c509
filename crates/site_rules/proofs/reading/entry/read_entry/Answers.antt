-- An entry that is an object by its first token, and any other.
use Rattle.std.proofs.Common.{◌≡◌, ◌∷◌, Some, ap, ◌∙◌, arith}
use Rattle.json.specs.Reads.{token_of}
use Rattle.json.specs.Token.{Token}
use Rattle.ocppj_frame.specs.Tree.{object}
use Rattle.site_rules.specs.ByCases.Parts.{tree_at, no_object, an_object}
use Rattle.site_rules.proofs.GlanceTrees as glances
use Rattle.site_rules.proofs.TokenTrees.{fields_opened}
use Rattle.site_rules.proofs.reading.entry.read_entry.Goals as goal

pub returns-in_ok-read_fields-in-BeginObject-clause-entry : goal.returns-in_ok-read_fields-in-BeginObject-clause-entry
returns-in_ok-read_fields-in-BeginObject-clause-entry c =
    let read = c.in_ok-read_fields-in-BeginObject.ensures.fields in
    let is : c.args.reader.now ≡ token_of c.in_ok-token.token ∷ c.next.new.self = grind arith in
    let opens : c.args.reader.now ≡ Token.begin_object ∷ c.next.new.self = grind (arith, is) in
    (object read.0, fields_opened c.args.depth c.args.reader.now c.next.new.self c.read_fields.new.reader read.0 (omega arith) opens read.1, an_object _ read.0 read.2)

pub returns-in_default-2-clause-entry : goal.returns-in_default-2-clause-entry
returns-in_default-2-clause-entry c =
    let is : c.args.reader.now ≡ token_of c.in_ok-token.token ∷ c.next.new.self = grind arith in
    let read = c.in_ok-glance_from-in_default.ensures.glance in
    let here : tree_at c.args.depth c.args.reader.now ≡ Some (read.tree, c.glance_from.new.reader) = ap (tree_at c.args.depth) is ∙ read.here in
    (read.tree, here, no_object read.tree (glances.no_object c.in_ok-glance_from-in_default.field-0 read.tree read.seen c.in_default-2.not-Object))
