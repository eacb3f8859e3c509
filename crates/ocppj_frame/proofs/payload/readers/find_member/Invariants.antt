use Rattle.std.proofs.Common.{◌≡◌}
use Rattle.ocppj_frame.specs.View.{members_view}
use Rattle.ocppj_frame.specs.ByCases.Member.{member_named}
use Rattle.ocppj_frame.proofs.payload.readers.find_member.Given as goal

-- the member is among the remaining ones
abbrev pub invariant-loop-key : goal.invariant-loop-key
invariant-loop-key l = member_named l.name (members_view l.key-iterator) ≡ member_named l.name (members_view l.members.entries)
