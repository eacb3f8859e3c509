-- Added for the prover: the pieces make one object.
use Rattle.std.specs.String.{string_bytes}
use Rattle.std.proofs.Common.{codes}
use Rattle.messages.specs.ObjectText.{fields_text, object_text}
use Rattle.messages.specs.ResponseText.{point_status_text}
use Rattle.messages.proofs.TextPieces.{two_values_and_string, begun, goes_on, stayed, ends_early}
use Rattle.messages.proofs.response_text.push_point_status.Goals as goal

pub returns : goal.returns
unfolding fields_text object_text point_status_text
returns c =
    rw (← c.name.ensures)
    (two_values_and_string _ (codes "{\"status\":\"Accepted\",\"version\":") _ (codes ",\"outbox\":") _ (codes ",\"audit\":\"") _ (codes "\"") (codes "}")
    _ _ _ _ _ _ _
    c.in_ok-push_str.ensures.bytes c.in_ok-push_integer.ensures c.in_ok-push_str-2.ensures.bytes
    c.in_ok-push_integer-2.ensures c.in_ok-push_str-3.ensures.bytes c.in_ok-push_str-4.ensures.bytes
    c.in_ok-push_str-5.ensures.bytes)

-- an append that fails leaves those before it

pub returns-in_err-push_integer : goal.returns-in_err-push_integer
returns-in_err-push_integer c =
    ends_early _ (string_bytes c.args.out.now) _ _ (point_status_text c.args.status) c.from_residual-in_err-push_integer.ensures.0
    (begun _ _ _ c.in_ok-push_str.ensures.bytes)
    c.in_err-push_integer.ensures

pub returns-in_err-push_str-2 : goal.returns-in_err-push_str-2
returns-in_err-push_str-2 c =
    ends_early _ (string_bytes c.args.out.now) _ _ (point_status_text c.args.status) c.from_residual-in_err-push_str-2.ensures.0
    (goes_on _ _ _ _ (begun _ _ _ c.in_ok-push_str.ensures.bytes) c.in_ok-push_integer.ensures)
    (stayed _ _ c.in_err-push_str-2.ensures.bytes)

pub returns-in_err-push_integer-2 : goal.returns-in_err-push_integer-2
returns-in_err-push_integer-2 c =
    ends_early _ (string_bytes c.args.out.now) _ _ (point_status_text c.args.status) c.from_residual-in_err-push_integer-2.ensures.0
    (goes_on _ _ _ _ (goes_on _ _ _ _ (begun _ _ _ c.in_ok-push_str.ensures.bytes) c.in_ok-push_integer.ensures) c.in_ok-push_str-2.ensures.bytes)
    c.in_err-push_integer-2.ensures

pub returns-in_err-push_str-3 : goal.returns-in_err-push_str-3
returns-in_err-push_str-3 c =
    ends_early _ (string_bytes c.args.out.now) _ _ (point_status_text c.args.status) c.from_residual-in_err-push_str-3.ensures.0
    (goes_on _ _ _ _ (goes_on _ _ _ _ (goes_on _ _ _ _ (begun _ _ _ c.in_ok-push_str.ensures.bytes) c.in_ok-push_integer.ensures) c.in_ok-push_str-2.ensures.bytes) c.in_ok-push_integer-2.ensures)
    (stayed _ _ c.in_err-push_str-3.ensures.bytes)

pub returns-in_err-push_str-4 : goal.returns-in_err-push_str-4
returns-in_err-push_str-4 c =
    ends_early _ (string_bytes c.args.out.now) _ _ (point_status_text c.args.status) c.from_residual-in_err-push_str-4.ensures.0
    (goes_on _ _ _ _ (goes_on _ _ _ _ (goes_on _ _ _ _ (goes_on _ _ _ _ (begun _ _ _ c.in_ok-push_str.ensures.bytes) c.in_ok-push_integer.ensures) c.in_ok-push_str-2.ensures.bytes) c.in_ok-push_integer-2.ensures) c.in_ok-push_str-3.ensures.bytes)
    (stayed _ _ c.in_err-push_str-4.ensures.bytes)

pub returns-in_err-push_str-5 : goal.returns-in_err-push_str-5
returns-in_err-push_str-5 c =
    ends_early _ (string_bytes c.args.out.now) _ _ (point_status_text c.args.status) c.from_residual-in_err-push_str-5.ensures.0
    (goes_on _ _ _ _ (goes_on _ _ _ _ (goes_on _ _ _ _ (goes_on _ _ _ _ (goes_on _ _ _ _ (begun _ _ _ c.in_ok-push_str.ensures.bytes) c.in_ok-push_integer.ensures) c.in_ok-push_str-2.ensures.bytes) c.in_ok-push_integer-2.ensures) c.in_ok-push_str-3.ensures.bytes) c.in_ok-push_str-4.ensures.bytes)
    (stayed _ _ c.in_err-push_str-5.ensures.bytes)
