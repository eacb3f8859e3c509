-- The message that a frame holds.
use Rattle.std.specs.Prelude.{◌≡◌, true}
use Rattle.ocppj_frame.specs.Message.{Message, call, call_result, call_error, other}
use Rattle.ocppj_frame.specs.Payload.{tree_in}
use Rattle.ocppj_frame.specs.Tree.{is_object}
use Rattle.ocppj_frame.specs.declared.frame.Frame.{Frame}
use Rattle.ocppj_frame.specs.declared.frame.Frame.TheVariants.{Call, Reply, Fault, Other}

abbrev pub message_in : Frame → Message
message_in (Call id action payload) = call id action (tree_in payload)
message_in (Reply id payload) = call_result id (tree_in payload)
message_in (Fault id) = call_error id
message_in Other = other

-- the payload of a frame, if it has one, is an object
abbrev pub HasObject : Frame → Type 0
HasObject (Call id action payload) = is_object (tree_in payload) ≡ true
HasObject (Reply id payload) = is_object (tree_in payload) ≡ true
HasObject (Fault id) = Unit {0}
HasObject Other = Unit {0}
