-- Added for the prover: a head, a payload and an end are one message.
use Rattle.std.specs.String.{string_bytes}
use Rattle.ocppj_frame.specs.Write.{call_result_text}
use Rattle.messages.specs.ResponseText.{boot_notification_text}
use Rattle.messages.proofs.FieldsText.{boot_notification_object}
use Rattle.messages.proofs.TextPieces.{appended_as, framed, begun, goes_on, stayed, ends_early}
use Rattle.messages.proofs.response_text.push_boot_notification.Goals as goal

pub returns : goal.returns
returns c =
    framed _ (string_bytes c.args.out.now) _ (boot_notification_text c.args.current_time) _ _ _ _ c.in_ok-push_result_head.ensures
    (appended_as _ _ _ _ _ _ c.in_ok-push_current_time.ensures c.in_ok-push_str.ensures.bytes (boot_notification_object c.args.current_time))
    c.push_frame_end.ensures

-- an append that fails leaves those before it

pub returns-in_err-push_current_time : goal.returns-in_err-push_current_time
returns-in_err-push_current_time c =
    ends_early _ (string_bytes c.args.out.now) _ _ (call_result_text c.args.id.now (boot_notification_text c.args.current_time)) c.from_residual-in_err-push_current_time.ensures.0
    (begun _ _ _ c.in_ok-push_result_head.ensures)
    c.in_err-push_current_time.ensures

pub returns-in_err-push_str : goal.returns-in_err-push_str
returns-in_err-push_str c =
    ends_early _ (string_bytes c.args.out.now) _ _ (call_result_text c.args.id.now (boot_notification_text c.args.current_time)) c.from_residual-in_err-push_str.ensures.0
    (goes_on _ _ _ _ (begun _ _ _ c.in_ok-push_result_head.ensures) c.in_ok-push_current_time.ensures)
    (stayed _ _ c.in_err-push_str.ensures.bytes)
