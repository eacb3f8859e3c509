-- A file that is an object by its first token, and any other.
use Rattle.std.proofs.Common.{◌≡◌, ◌∷◌, Some, ap, ◌∙◌, arith}
use Rattle.json.specs.Reads.{token_of}
use Rattle.json.specs.Token.{Token}
use Rattle.ocppj_frame.specs.Tree.{object}
use Rattle.site_rules.specs.ByCases.Parts.{tree_at}
use Rattle.site_rules.proofs.GlanceTrees.{no_object}
use Rattle.site_rules.proofs.PartsRead.{fields-site, other-site}
use Rattle.site_rules.proofs.TokenTrees.{fields_opened}
use Rattle.site_rules.proofs.reading.whole.read_whole.Goals as goal

pub returns-in_ok-read_fields-in-BeginObject : goal.returns-in_ok-read_fields-in-BeginObject
returns-in_ok-read_fields-in-BeginObject c =
    let read = c.in_ok-read_fields-in-BeginObject.ensures in
    let is : c.args.reader.now ≡ token_of c.in_ok-token.token ∷ c.next.new.self = grind arith in
    let opens : c.args.reader.now ≡ Token.begin_object ∷ c.next.new.self = grind (arith, is) in (
      object read.0,
      fields_opened c.args.depth c.args.reader.now c.next.new.self c.read_fields.new.reader read.0 (omega arith) opens read.1,
      c.site_of_fields.ensures ∙ fields-site read.0 _ read.2,
    )

pub returns-in_default-2 : goal.returns-in_default-2
returns-in_default-2 c =
    let is : c.args.reader.now ≡ token_of c.in_ok-token.token ∷ c.next.new.self = grind arith in
    let read = c.in_ok-glance_from-in_default.ensures.glance in
    let here : tree_at c.args.depth c.args.reader.now ≡ Some (read.tree, c.glance_from.new.reader) = ap (tree_at c.args.depth) is ∙ read.here in
    (read.tree, here, other-site read.tree (no_object c.in_ok-glance_from-in_default.field-0 read.tree read.seen c.in_default-2.not-Object))
