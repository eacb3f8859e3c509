-- The text is that of the call that was sent.
use Rattle.std.proofs.Common.{Some, refl, ◌∙◌}
use Rattle.session.proofs.LeavingLemmas.{call_leaves, of_some}
use Rattle.session.proofs.serving.calls.send_call.Goals as goal

pub clear_to_leave-requires : goal.clear_to_leave-requires
clear_to_leave-requires g c =
    call_leaves g.W.Name.ListName.is_recorded c.point_id-2.result.now c.in-Point-Some.link
    c.in-Some.call c.in-Some.seen c.as_str-2.result.now (Some c.in-Some.seen)
    (of_some _ c.in_ok-call.field-0 _ c.in_ok-call.ensures c.in-Some.is)
    (c.as_str-2.ensures.value ∙ c.in-Ok.ensures) refl
