-- The pieces make one object.
use Rattle.std.specs.String.{string_bytes}
use Rattle.std.proofs.Common.{codes}
use Rattle.messages.specs.ObjectText.{fields_text, object_text}
use Rattle.sim_point_core.specs.CallText.{start_text}
use Rattle.sim_point_core.proofs.TextPieces.{four_values, begun, goes_on, stayed, ends_early}
use Rattle.sim_point_core.proofs.point_call_text.push_start.Goals as goal

pub returns : goal.returns
unfolding start_text fields_text object_text
returns c =
    rw (← c.as_str.ensures.text)
    (four_values _ (codes "{\"connectorId\":") _ (codes ",\"idTag\":") _ (codes ",\"meterStart\":") _ (codes ",\"timestamp\":\"") _ (codes "\"") (codes "}")
    _ _ _ _ _ _ _ _ _
    c.in_ok-push_str.ensures.bytes c.in_ok-push_integer.ensures c.in_ok-push_str-2.ensures.bytes
    c.in_ok-push_string.ensures c.in_ok-push_str-3.ensures.bytes c.in_ok-push_signed.ensures
    c.in_ok-push_str-4.ensures.bytes c.in_ok-push_instant.ensures c.in_ok-push_str-5.ensures.bytes)

-- an append that fails leaves those before it

pub returns-in_err-push_integer : goal.returns-in_err-push_integer
returns-in_err-push_integer c =
    ends_early _ (string_bytes c.args.out.now) _ _ (start_text c.args.connector c.args.begin.now) c.from_residual-in_err-push_integer.ensures.0
    (begun _ _ _ c.in_ok-push_str.ensures.bytes)
    c.in_err-push_integer.ensures

pub returns-in_err-push_str-2 : goal.returns-in_err-push_str-2
returns-in_err-push_str-2 c =
    ends_early _ (string_bytes c.args.out.now) _ _ (start_text c.args.connector c.args.begin.now) c.from_residual-in_err-push_str-2.ensures.0
    (goes_on _ _ _ _ (begun _ _ _ c.in_ok-push_str.ensures.bytes) c.in_ok-push_integer.ensures)
    (stayed _ _ c.in_err-push_str-2.ensures.bytes)

pub returns-in_err-push_string : goal.returns-in_err-push_string
returns-in_err-push_string c =
    ends_early _ (string_bytes c.args.out.now) _ _ (start_text c.args.connector c.args.begin.now) c.from_residual-in_err-push_string.ensures.0
    (goes_on _ _ _ _ (goes_on _ _ _ _ (begun _ _ _ c.in_ok-push_str.ensures.bytes) c.in_ok-push_integer.ensures) c.in_ok-push_str-2.ensures.bytes)
    c.in_err-push_string.ensures

pub returns-in_err-push_str-3 : goal.returns-in_err-push_str-3
returns-in_err-push_str-3 c =
    ends_early _ (string_bytes c.args.out.now) _ _ (start_text c.args.connector c.args.begin.now) c.from_residual-in_err-push_str-3.ensures.0
    (goes_on _ _ _ _ (goes_on _ _ _ _ (goes_on _ _ _ _ (begun _ _ _ c.in_ok-push_str.ensures.bytes) c.in_ok-push_integer.ensures) c.in_ok-push_str-2.ensures.bytes) c.in_ok-push_string.ensures)
    (stayed _ _ c.in_err-push_str-3.ensures.bytes)

pub returns-in_err-push_signed : goal.returns-in_err-push_signed
returns-in_err-push_signed c =
    ends_early _ (string_bytes c.args.out.now) _ _ (start_text c.args.connector c.args.begin.now) c.from_residual-in_err-push_signed.ensures.0
    (goes_on _ _ _ _ (goes_on _ _ _ _ (goes_on _ _ _ _ (goes_on _ _ _ _ (begun _ _ _ c.in_ok-push_str.ensures.bytes) c.in_ok-push_integer.ensures) c.in_ok-push_str-2.ensures.bytes) c.in_ok-push_string.ensures) c.in_ok-push_str-3.ensures.bytes)
    c.in_err-push_signed.ensures

pub returns-in_err-push_str-4 : goal.returns-in_err-push_str-4
returns-in_err-push_str-4 c =
    ends_early _ (string_bytes c.args.out.now) _ _ (start_text c.args.connector c.args.begin.now) c.from_residual-in_err-push_str-4.ensures.0
    (goes_on _ _ _ _ (goes_on _ _ _ _ (goes_on _ _ _ _ (goes_on _ _ _ _ (goes_on _ _ _ _ (begun _ _ _ c.in_ok-push_str.ensures.bytes) c.in_ok-push_integer.ensures) c.in_ok-push_str-2.ensures.bytes) c.in_ok-push_string.ensures) c.in_ok-push_str-3.ensures.bytes) c.in_ok-push_signed.ensures)
    (stayed _ _ c.in_err-push_str-4.ensures.bytes)

pub returns-in_err-push_instant : goal.returns-in_err-push_instant
returns-in_err-push_instant c =
    ends_early _ (string_bytes c.args.out.now) _ _ (start_text c.args.connector c.args.begin.now) c.from_residual-in_err-push_instant.ensures.0
    (goes_on _ _ _ _ (goes_on _ _ _ _ (goes_on _ _ _ _ (goes_on _ _ _ _ (goes_on _ _ _ _ (goes_on _ _ _ _ (begun _ _ _ c.in_ok-push_str.ensures.bytes) c.in_ok-push_integer.ensures) c.in_ok-push_str-2.ensures.bytes) c.in_ok-push_string.ensures) c.in_ok-push_str-3.ensures.bytes) c.in_ok-push_signed.ensures) c.in_ok-push_str-4.ensures.bytes)
    c.in_err-push_instant.ensures

pub returns-in_err-push_str-5 : goal.returns-in_err-push_str-5
returns-in_err-push_str-5 c =
    ends_early _ (string_bytes c.args.out.now) _ _ (start_text c.args.connector c.args.begin.now) c.from_residual-in_err-push_str-5.ensures.0
    (goes_on _ _ _ _ (goes_on _ _ _ _ (goes_on _ _ _ _ (goes_on _ _ _ _ (goes_on _ _ _ _ (goes_on _ _ _ _ (goes_on _ _ _ _ (begun _ _ _ c.in_ok-push_str.ensures.bytes) c.in_ok-push_integer.ensures) c.in_ok-push_str-2.ensures.bytes) c.in_ok-push_string.ensures) c.in_ok-push_str-3.ensures.bytes) c.in_ok-push_signed.ensures) c.in_ok-push_str-4.ensures.bytes) c.in_ok-push_instant.ensures)
    (stayed _ _ c.in_err-push_str-5.ensures.bytes)
