-- Added for the prover: the pieces make one text.
use Rattle.std.specs.String.{string_bytes}
use Rattle.messages.specs.ObjectText.{time_text}
use Rattle.std.proofs.Common.{codes}
use Rattle.messages.specs.ByCases.ObjectText.{first_field_text}
use Rattle.messages.proofs.TextPieces.{three_pieces, begun, goes_on, stayed, ends_early}
use Rattle.messages.proofs.response_text.push_current_time.Goals as goal

pub returns : goal.returns
unfolding first_field_text
returns c =
    three_pieces _ (codes "{\"currentTime\":\"") _ (codes "\"")
    _ _ _
    c.in_ok-push_str.ensures.bytes c.in_ok-push_instant.ensures c.in_ok-push_str-2.ensures.bytes

-- an append that fails leaves those before it

pub returns-in_err-push_instant : goal.returns-in_err-push_instant
returns-in_err-push_instant c =
    ends_early _ (string_bytes c.args.out.now) _ _ (first_field_text (codes "currentTime") (time_text c.args.current_time)) c.from_residual-in_err-push_instant.ensures.0
    (begun _ _ _ c.in_ok-push_str.ensures.bytes)
    c.in_err-push_instant.ensures

pub returns-in_err-push_str-2 : goal.returns-in_err-push_str-2
returns-in_err-push_str-2 c =
    ends_early _ (string_bytes c.args.out.now) _ _ (first_field_text (codes "currentTime") (time_text c.args.current_time)) c.from_residual-in_err-push_str-2.ensures.0
    (goes_on _ _ _ _ (begun _ _ _ c.in_ok-push_str.ensures.bytes) c.in_ok-push_instant.ensures)
    (stayed _ _ c.in_err-push_str-2.ensures.bytes)
