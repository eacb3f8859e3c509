-- The request of a message from the central system: nothing, an answer whatever the point's state
-- is, an action, or the end of the point's own call.
use Rattle.std.specs.Prelude.{ℕ, ℤ, codes, List, Option, Some, None, Result, Ok, Err}
use Rattle.ocppj_frame.specs.declared.fault.FrameFault.{FrameFault}
use Rattle.ocppj_frame.specs.declared.fault.FrameFault.TheVariants.{Formation}
use Rattle.ocppj_frame.specs.declared.field.Field.{Field}
use Rattle.ocppj_frame.specs.declared.field.Field.TheVariants.{Value}
use Rattle.ocppj_frame.specs.Field.{whole_field_of}
use Rattle.ocppj_frame.specs.Tree.{Tree}
use Rattle.ocppj_frame.specs.Message.{Message, call, call_result, call_error, other}
use Rattle.ocppj_frame.specs.ByCases.Message.{message_of_text}
use Rattle.messages.specs.declared.side.Side.TheVariants.{Operator}
use Rattle.messages.specs.declared.action.Action.{Action}
use Rattle.messages.specs.declared.action_kind.ActionKind.{ActionKind}
use Rattle.messages.specs.declared.call_fault.CallFault.{CallFault}
use Rattle.messages.specs.declared.call_fault.CallFault.TheVariants.{FormationViolation, NotImplemented}
use Rattle.messages.specs.declared.response.Response.{Response}
use Rattle.messages.specs.declared.response.Response.TheVariants.{Error}
use Rattle.messages.specs.ActionKind.{action_named, kind_of_sender}
use Rattle.messages.specs.Action.{action_of_kind}
use Rattle.sim_point_core.specs.declared.request.Request.{Request}
use Rattle.sim_point_core.specs.declared.request.Request.TheVariants.{Nothing, Respond, Act, Reply}

-- ---- CALLs (OCPP-J 1.6, 4.2.1)

-- the answer to an unknown action, or to one that isn't sent to charge points
abbrev pub not_implemented : Response
not_implemented = Error NotImplemented

-- a CALL that can't be read is answered with its first fault
abbrev pub request_by_reading : List ℕ → Result Action CallFault → Request
request_by_reading id (Ok action) = Act id action
request_by_reading id (Err fault) = Respond id (Error fault)

-- A charge point receives the actions that an operator sends. Any other isn't implemented, whatever
-- its fields are. A point implements none of this system's own actions.
abbrev pub request_of_kind : List ℕ → Option ActionKind → Tree → Request
request_of_kind id None payload = Respond id not_implemented
request_of_kind id (Some kind) payload = request_by_reading id (action_of_kind kind payload)

-- ---- replies to the point's own calls (OCPP-J 1.6, 4.2.2 and 4.2.3)

-- the whole number of a field, if it has one
abbrev pub whole_in : Field ℤ → Option ℤ
whole_in (Value number) = Some number
whole_in _ = None

-- the transactionId in a StartTransaction.conf (OCPP 1.6, chapter 6)
abbrev pub transaction_in : Tree → Option ℤ
transaction_in payload = whole_in (whole_field_of (codes "transactionId") payload)

-- ---- messages

-- A CALL is answered, even a malformed one if it has an id. A CALLRESULT or a CALLERROR is the
-- reply to one of the point's own calls, and a CALLERROR brings no transactionId.
abbrev pub request_of_message : Result Message FrameFault → Request
request_of_message (Ok (call id name payload)) =
    request_of_kind id (kind_of_sender Operator (action_named name)) payload
request_of_message (Ok (call_result id payload)) = Reply id (transaction_in payload)
request_of_message (Ok (call_error id)) = Reply id None
request_of_message (Ok other) = Nothing
request_of_message (Err (Formation id)) = Respond id (Error FormationViolation)
request_of_message (Err _) = Nothing

unfoldable pub request_of : List ℕ → Request
request_of text = request_of_message (message_of_text text)
