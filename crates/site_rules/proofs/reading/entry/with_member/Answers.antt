-- A member whose key is a text, and one whose key isn't.
use Rattle.std.proofs.Common.{◌≡◌, Some, None, arith}
use Rattle.ocppj_frame.specs.Read.{name_of_key}
use Rattle.site_rules.proofs.MembersRead.{point_named, point_unnamed}
use Rattle.site_rules.proofs.reading.entry.with_member.Goals as goal

pub returns-in_ok-with_field-in-Some-clause-member : goal.returns-in_ok-with_field-in-Some-clause-member
returns-in_ok-with_field-in-Some-clause-member c =
    let named : name_of_key c.args.key.now ≡ Some c.in-Some.name.now = grind arith in
    point_named c.args.depth c.args.reader.now c.with_field.new.reader c.args.key.now c.in-Some.name.now c.args.point _ named c.in_ok-with_field-in-Some.ensures.field

pub returns-in_ok-read_glance-in-None-clause-member : goal.returns-in_ok-read_glance-in-None-clause-member
returns-in_ok-read_glance-in-None-clause-member c =
    let unnamed : name_of_key c.args.key.now ≡ None = grind arith in
    point_unnamed c.args.depth c.args.reader.now c.read_glance.new.reader c.args.key.now _ c.args.point unnamed c.in_ok-read_glance-in-None.ensures.glance
