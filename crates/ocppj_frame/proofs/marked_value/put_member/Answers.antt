-- An entry is inserted where `serde_json` puts the member.
use Rattle.std.proofs.Common.{◌∙◌, ap}
use Rattle.ocppj_frame.specs.View.{members_view}
use Rattle.ocppj_frame.proofs.Views.{members_view-insert_entry}
use Rattle.ocppj_frame.proofs.marked_value.put_member.Goals as goal

pub returns-clause-inserted : goal.returns-clause-inserted
returns-clause-inserted c =
    ap members_view c.in_ok-insert.ensures.entries ∙ members_view-insert_entry c.args.found.now.entries c.args.key c.args.member
