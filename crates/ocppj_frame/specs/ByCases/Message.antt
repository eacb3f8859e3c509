-- A tree as a message, element by element: a CALL `[2, id, action, payload]`, a CALLRESULT
-- `[3, id, payload]` or a CALLERROR `[4, id, code, description, details]`. Equal to the table of
-- `Message` by the law `frame_messages`.
use Rattle.std.specs.Prelude.{ℕ, ℤ, pos, negsuc, ◌==◌, length, List, Option, Some, None, option_map, option_and_then, unwrap_or, nat_le, nat_lt, slice_get, Result, Ok, Err, if◌then◌else◌}
use Rattle.std.specs.Option.{option_map_or}
use Rattle.std.specs.Result.{result_ok}
use Rattle.std.specs.Str.{chars}
use Rattle.ocpp_scalars.specs.ByCases.Number.{whole_of}
use Rattle.ocppj_frame.specs.Limits.{max_frame_bytes, max_id_characters}
use Rattle.ocppj_frame.specs.Tree.{Tree, as_list, as_number, as_object, as_text, is_null}
use Rattle.ocppj_frame.specs.Read.{tree_of_text}
use Rattle.ocppj_frame.specs.Message.{Message, call, call_result, call_error, other, empty_object}
use Rattle.ocppj_frame.specs.declared.fault.FrameFault.{FrameFault}
use Rattle.ocppj_frame.specs.declared.fault.FrameFault.TheVariants.{Dropped, Formation}
use Rattle.ocppj_frame.specs.declared.message.MessageType.{MessageType}
use Rattle.ocppj_frame.specs.declared.message.MessageType.TheVariants.{Call, CallResult, CallError, Other}

-- the message types by number (section 4.1.3)
abbrev pub type_of_number : ℤ → MessageType
type_of_number (pos n) =
    if n == 2 then Call
    else if n == 3 then CallResult
    else if n == 4 then CallError
    else Other
type_of_number (negsuc n) = Other

-- the first element is a number with a whole value
abbrev pub whole_number : Tree → Option ℤ
whole_number element = option_and_then (λ digits. result_ok (whole_of digits)) (as_number element)

abbrev pub message_type : Option Tree → Option MessageType
message_type element = option_map type_of_number (option_and_then whole_number element)

-- the second element is a text of at most 36 characters (section 4.1.4)
abbrev pub unless_long : List ℕ → Option (List ℕ)
unless_long id = if nat_le (length (chars id)) max_id_characters then Some id else None

abbrev pub message_id : Option Tree → Option (List ℕ)
message_id element = option_and_then unless_long (option_and_then as_text element)

-- a payload is an object; if it is absent or null, the empty one
abbrev pub payload_of : Option Tree → Option Tree
payload_of None = Some empty_object
payload_of (Some element) = if is_null element then Some empty_object else as_object element

-- a CALL is answered with its id if its action isn't a text or its payload is malformed
abbrev pub call_of : List ℕ → Option (List ℕ) → Option Tree → Result Message FrameFault
call_of id (Some action) (Some payload) = Ok (call id action payload)
call_of id (Some action) None = Err (Formation id)
call_of id None payload = Err (Formation id)

-- the message by its type, its id, and its third and fourth elements
abbrev pub message_by : Option MessageType → Option (List ℕ) → Option Tree → Option Tree
    → Result Message FrameFault
message_by None id third fourth = Err Dropped
message_by (Some Other) id third fourth = Ok other
message_by (Some Call) None third fourth = Err Dropped
message_by (Some CallResult) None third fourth = Err Dropped
message_by (Some CallError) None third fourth = Err Dropped
message_by (Some Call) (Some id) third fourth =
    call_of id (option_and_then as_text third) (payload_of fourth)
message_by (Some CallResult) (Some id) third fourth =
    Ok (call_result id (unwrap_or (payload_of third) empty_object))
message_by (Some CallError) (Some id) third fourth = Ok (call_error id)

abbrev pub message_of_elements : List Tree → Result Message FrameFault
message_of_elements elements =
    message_by
    (message_type (slice_get elements 0))
    (message_id (slice_get elements 1))
    (slice_get elements 2)
    (slice_get elements 3)

-- a tree that isn't a list is dropped
abbrev pub message_of_tree : Tree → Result Message FrameFault
message_of_tree tree = option_map_or message_of_elements (as_list tree) (Err Dropped)

-- a text of too many bytes is dropped, and so is a refused one
abbrev pub message_of_text : List ℕ → Result Message FrameFault
message_of_text text =
    if nat_lt max_frame_bytes (length text) then Err Dropped
    else option_map_or message_of_tree (tree_of_text text) (Err Dropped)
