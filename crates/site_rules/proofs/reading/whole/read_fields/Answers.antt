-- The fields so far, with one more.
use Rattle.std.proofs.Common.{◌≡◌, Some, refl, arith}
use Rattle.json.specs.Json.{read_key}
use Rattle.json.proofs.Grammar.{read_key-shorter}
use Rattle.ocppj_frame.specs.Tree.{no_fields}
use Rattle.site_rules.proofs.TokenTrees.{object_begun, object_more, object_ended}
use Rattle.site_rules.proofs.reading.whole.read_fields.Goals as goal

pub members-init : goal.members-init
members-init c = (no_fields, object_begun c.args.depth c.args.reader.now, omega arith, record { unit = refl; points = refl })

pub members-preserved : goal.members-preserved
members-preserved c =
    let l = c.members in
    let keyed : read_key l.reader ≡ Some (Some c.in-Some.key.now, c.next_key.new.self) = grind arith in
    let less = read_key-shorter l.reader (Some c.in-Some.key.now) c.next_key.new.self keyed in
    let lesser = c.in_ok-site.ensures.shorter in
    let member = c.in_ok-site.ensures.member in
    let more = object_more c.args.depth c.args.reader.now l.reader c.next_key.new.self c.with_member.new.reader l.invariant.0 c.in-Some.key.now member.tree
    l.invariant.1 keyed member.here lesser in
    (more.more, more.sofar, omega (arith, l.invariant.2), member.fields l.invariant.0 more.more l.invariant.3 more.put)

pub returns : goal.returns
returns c =
    let l = c.members in
    (l.invariant.0, object_ended c.args.depth c.args.reader.now l.reader c.next_key.new.self l.invariant.0 l.invariant.1 (grind arith), l.invariant.3)
