-- The elements taken one after another are those of the list.
use Rattle.std.proofs.Common.{sym, subst, Result}
use Rattle.ocpp_scalars.specs.Reading.{ReadsUnless}
use Rattle.ocppj_frame.specs.Fault.{is_memory}
use Rattle.ocppj_frame.specs.Frame.{message_in}
use Rattle.ocppj_frame.specs.Message.{Message}
use Rattle.ocppj_frame.specs.declared.fault.FrameFault.{FrameFault}
use Rattle.ocppj_frame.proofs.Elements.{message_of_taken}
use Rattle.ocppj_frame.proofs.frame.frame_of_tree.Goals as goal

pub returns-clause-message : goal.returns-clause-message
returns-clause-message c =
    let P : Result Message FrameFault → Type 0 = λ m. ReadsUnless is_memory message_in c.frame_by.result m in
    subst P (sym (message_of_taken _ _ _ _ _ _ _ _ c.in-Some.ensures c.next_number.ensures.left c.next_text.ensures.left
    c.next_number.ensures.digits c.next_text.ensures.text c.message_type-kind.ensures c.in_ok-id.ensures)) c.frame_by.ensures.message
