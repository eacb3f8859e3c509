-- The pieces make one object.
use Rattle.std.specs.String.{string_bytes}
use Rattle.std.proofs.Common.{codes}
use Rattle.std.proofs.lemmas.Int.{to_z-of_z}
use mir.Syntax.{w32}
use Rattle.messages.specs.ObjectText.{fields_text, object_text}
use Rattle.sim_point_core.specs.CallText.{stop_text}
use Rattle.sim_point_core.proofs.TextPieces.{three_values, begun, goes_on, stayed, ends_early}
use Rattle.sim_point_core.proofs.point_call_text.push_stop.Goals as goal

pub returns : goal.returns
unfolding stop_text fields_text object_text
returns c =
    three_values _ (codes "{\"transactionId\":") _ (codes ",\"timestamp\":\"") _ (codes "\"") (codes ",\"meterStop\":") _ (codes "}")
    _ _ _ _ _ _ _
    c.in_ok-push_str.ensures.bytes (rw (to_z-of_z w32 c.args.transaction c.ranges.transaction) at c.in_ok-push_signed.ensures) c.in_ok-push_str-2.ensures.bytes
    c.in_ok-push_instant.ensures c.in_ok-push_str-3.ensures.bytes (rw (to_z-of_z w32 c.args.meter_stop c.ranges.meter_stop) at c.in_ok-push_signed-2.ensures)
    c.in_ok-push_str-4.ensures.bytes

-- an append that fails leaves those before it

pub returns-in_err-push_signed : goal.returns-in_err-push_signed
returns-in_err-push_signed c =
    ends_early _ (string_bytes c.args.out.now) _ _ (stop_text c.args.transaction c.args.meter_stop c.args.timestamp) c.from_residual-in_err-push_signed.ensures.0
    (begun _ _ _ c.in_ok-push_str.ensures.bytes)
    c.in_err-push_signed.ensures

pub returns-in_err-push_str-2 : goal.returns-in_err-push_str-2
returns-in_err-push_str-2 c =
    ends_early _ (string_bytes c.args.out.now) _ _ (stop_text c.args.transaction c.args.meter_stop c.args.timestamp) c.from_residual-in_err-push_str-2.ensures.0
    (goes_on _ _ _ _ (begun _ _ _ c.in_ok-push_str.ensures.bytes) c.in_ok-push_signed.ensures)
    (stayed _ _ c.in_err-push_str-2.ensures.bytes)

pub returns-in_err-push_instant : goal.returns-in_err-push_instant
returns-in_err-push_instant c =
    ends_early _ (string_bytes c.args.out.now) _ _ (stop_text c.args.transaction c.args.meter_stop c.args.timestamp) c.from_residual-in_err-push_instant.ensures.0
    (goes_on _ _ _ _ (goes_on _ _ _ _ (begun _ _ _ c.in_ok-push_str.ensures.bytes) c.in_ok-push_signed.ensures) c.in_ok-push_str-2.ensures.bytes)
    c.in_err-push_instant.ensures

pub returns-in_err-push_str-3 : goal.returns-in_err-push_str-3
returns-in_err-push_str-3 c =
    ends_early _ (string_bytes c.args.out.now) _ _ (stop_text c.args.transaction c.args.meter_stop c.args.timestamp) c.from_residual-in_err-push_str-3.ensures.0
    (goes_on _ _ _ _ (goes_on _ _ _ _ (goes_on _ _ _ _ (begun _ _ _ c.in_ok-push_str.ensures.bytes) c.in_ok-push_signed.ensures) c.in_ok-push_str-2.ensures.bytes) c.in_ok-push_instant.ensures)
    (stayed _ _ c.in_err-push_str-3.ensures.bytes)

pub returns-in_err-push_signed-2 : goal.returns-in_err-push_signed-2
returns-in_err-push_signed-2 c =
    ends_early _ (string_bytes c.args.out.now) _ _ (stop_text c.args.transaction c.args.meter_stop c.args.timestamp) c.from_residual-in_err-push_signed-2.ensures.0
    (goes_on _ _ _ _ (goes_on _ _ _ _ (goes_on _ _ _ _ (goes_on _ _ _ _ (begun _ _ _ c.in_ok-push_str.ensures.bytes) c.in_ok-push_signed.ensures) c.in_ok-push_str-2.ensures.bytes) c.in_ok-push_instant.ensures) c.in_ok-push_str-3.ensures.bytes)
    c.in_err-push_signed-2.ensures

pub returns-in_err-push_str-4 : goal.returns-in_err-push_str-4
returns-in_err-push_str-4 c =
    ends_early _ (string_bytes c.args.out.now) _ _ (stop_text c.args.transaction c.args.meter_stop c.args.timestamp) c.from_residual-in_err-push_str-4.ensures.0
    (goes_on _ _ _ _ (goes_on _ _ _ _ (goes_on _ _ _ _ (goes_on _ _ _ _ (goes_on _ _ _ _ (begun _ _ _ c.in_ok-push_str.ensures.bytes) c.in_ok-push_signed.ensures) c.in_ok-push_str-2.ensures.bytes) c.in_ok-push_instant.ensures) c.in_ok-push_str-3.ensures.bytes) c.in_ok-push_signed-2.ensures)
    (stayed _ _ c.in_err-push_str-4.ensures.bytes)
