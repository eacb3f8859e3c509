-- Added for the prover: a head, a payload and an end are one message.
use Rattle.std.specs.String.{string_bytes}
use Rattle.ocppj_frame.specs.Write.{call_result_text}
use Rattle.messages.specs.ResponseText.{composite_text}
use Rattle.messages.proofs.TextPieces.{framed, begun, stayed, ends_early}
use Rattle.messages.proofs.response_text.push_schedule_result.Goals as goal

pub returns : goal.returns
returns c =
    framed _ (string_bytes c.args.out.now) _ (composite_text c.args.response.now) _ _ _ _ c.in_ok-push_result_head.ensures
    c.in_ok-push_composite.ensures c.push_frame_end.ensures

-- an append that fails leaves those before it

pub returns-in_err-push_composite : goal.returns-in_err-push_composite
returns-in_err-push_composite c =
    ends_early _ (string_bytes c.args.out.now) _ _ (call_result_text c.args.id.now (composite_text c.args.response.now)) c.from_residual-in_err-push_composite.ensures.0
    (begun _ _ _ c.in_ok-push_result_head.ensures)
    c.in_err-push_composite.ensures
