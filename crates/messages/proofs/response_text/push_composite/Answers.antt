-- Added for the prover: the pieces make one object.
use Rattle.std.proofs.Common.{codes}
use Rattle.messages.specs.ObjectText.{fields_text, object_text}
use Rattle.messages.specs.ResponseText.{composite_text}
use Rattle.std.specs.String.{string_bytes}
use Rattle.messages.proofs.TextPieces.{three_values, begun, goes_on, stayed, ends_early}
use Rattle.messages.proofs.response_text.push_composite.Goals as goal

pub returns : goal.returns
unfolding composite_text fields_text object_text
returns c =
    three_values _ (codes "{\"status\":\"Accepted\",\"connectorId\":") _ (codes ",\"scheduleStart\":\"") _ (codes "\"") (codes ",\"chargingSchedule\":") _ (codes "}")
    _ _ _ _ _ _ _
    c.in_ok-push_str.ensures.bytes c.in_ok-push_integer.ensures c.in_ok-push_str-2.ensures.bytes
    c.in_ok-push_instant.ensures c.in_ok-push_str-3.ensures.bytes
    c.in_ok-push_composite_schedule.ensures c.in_ok-push_str-4.ensures.bytes

-- an append that fails leaves those before it

pub returns-in_err-push_integer : goal.returns-in_err-push_integer
returns-in_err-push_integer c =
    ends_early _ (string_bytes c.args.out.now) _ _ (composite_text c.args.response.now) c.from_residual-in_err-push_integer.ensures.0
    (begun _ _ _ c.in_ok-push_str.ensures.bytes)
    c.in_err-push_integer.ensures

pub returns-in_err-push_str-2 : goal.returns-in_err-push_str-2
returns-in_err-push_str-2 c =
    ends_early _ (string_bytes c.args.out.now) _ _ (composite_text c.args.response.now) c.from_residual-in_err-push_str-2.ensures.0
    (goes_on _ _ _ _ (begun _ _ _ c.in_ok-push_str.ensures.bytes) c.in_ok-push_integer.ensures)
    (stayed _ _ c.in_err-push_str-2.ensures.bytes)

pub returns-in_err-push_instant : goal.returns-in_err-push_instant
returns-in_err-push_instant c =
    ends_early _ (string_bytes c.args.out.now) _ _ (composite_text c.args.response.now) c.from_residual-in_err-push_instant.ensures.0
    (goes_on _ _ _ _ (goes_on _ _ _ _ (begun _ _ _ c.in_ok-push_str.ensures.bytes) c.in_ok-push_integer.ensures) c.in_ok-push_str-2.ensures.bytes)
    c.in_err-push_instant.ensures

pub returns-in_err-push_str-3 : goal.returns-in_err-push_str-3
returns-in_err-push_str-3 c =
    ends_early _ (string_bytes c.args.out.now) _ _ (composite_text c.args.response.now) c.from_residual-in_err-push_str-3.ensures.0
    (goes_on _ _ _ _ (goes_on _ _ _ _ (goes_on _ _ _ _ (begun _ _ _ c.in_ok-push_str.ensures.bytes) c.in_ok-push_integer.ensures) c.in_ok-push_str-2.ensures.bytes) c.in_ok-push_instant.ensures)
    (stayed _ _ c.in_err-push_str-3.ensures.bytes)

pub returns-in_err-push_composite_schedule : goal.returns-in_err-push_composite_schedule
returns-in_err-push_composite_schedule c =
    ends_early _ (string_bytes c.args.out.now) _ _ (composite_text c.args.response.now) c.from_residual-in_err-push_composite_schedule.ensures.0
    (goes_on _ _ _ _ (goes_on _ _ _ _ (goes_on _ _ _ _ (goes_on _ _ _ _ (begun _ _ _ c.in_ok-push_str.ensures.bytes) c.in_ok-push_integer.ensures) c.in_ok-push_str-2.ensures.bytes) c.in_ok-push_instant.ensures) c.in_ok-push_str-3.ensures.bytes)
    c.in_err-push_composite_schedule.ensures

pub returns-in_err-push_str-4 : goal.returns-in_err-push_str-4
returns-in_err-push_str-4 c =
    ends_early _ (string_bytes c.args.out.now) _ _ (composite_text c.args.response.now) c.from_residual-in_err-push_str-4.ensures.0
    (goes_on _ _ _ _ (goes_on _ _ _ _ (goes_on _ _ _ _ (goes_on _ _ _ _ (goes_on _ _ _ _ (begun _ _ _ c.in_ok-push_str.ensures.bytes) c.in_ok-push_integer.ensures) c.in_ok-push_str-2.ensures.bytes) c.in_ok-push_instant.ensures) c.in_ok-push_str-3.ensures.bytes) c.in_ok-push_composite_schedule.ensures)
    (stayed _ _ c.in_err-push_str-4.ensures.bytes)
