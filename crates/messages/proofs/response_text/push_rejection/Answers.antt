-- Added for the prover: the pieces make one object.
use Rattle.std.specs.String.{string_bytes}
use Rattle.std.proofs.Common.{codes}
use Rattle.messages.specs.ObjectText.{fields_text, object_text}
use Rattle.messages.specs.ResponseText.{rejected_text}
use Rattle.messages.proofs.TextPieces.{one_string, begun, goes_on, stayed, ends_early}
use Rattle.messages.proofs.response_text.push_rejection.Goals as goal

pub returns : goal.returns
unfolding fields_text object_text rejected_text
returns c =
    rw (← c.name.ensures)
    (one_string _ (codes "{\"status\":\"Rejected\",\"reason\":\"") _ (codes "\"") (codes "}")
    _ _ _
    c.in_ok-push_str.ensures.bytes c.in_ok-push_str-2.ensures.bytes c.in_ok-push_str-3.ensures.bytes)

-- an append that fails leaves those before it

pub returns-in_err-push_str-2 : goal.returns-in_err-push_str-2
returns-in_err-push_str-2 c =
    ends_early _ (string_bytes c.args.out.now) _ _ (rejected_text c.args.refusal) c.from_residual-in_err-push_str-2.ensures.0
    (begun _ _ _ c.in_ok-push_str.ensures.bytes)
    (stayed _ _ c.in_err-push_str-2.ensures.bytes)

pub returns-in_err-push_str-3 : goal.returns-in_err-push_str-3
returns-in_err-push_str-3 c =
    ends_early _ (string_bytes c.args.out.now) _ _ (rejected_text c.args.refusal) c.from_residual-in_err-push_str-3.ensures.0
    (goes_on _ _ _ _ (begun _ _ _ c.in_ok-push_str.ensures.bytes) c.in_ok-push_str-2.ensures.bytes)
    (stayed _ _ c.in_err-push_str-3.ensures.bytes)
