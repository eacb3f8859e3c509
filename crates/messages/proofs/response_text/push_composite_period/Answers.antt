-- Added for the prover: the pieces make one object.
use Rattle.std.proofs.Common.{codes}
use Rattle.messages.specs.ObjectText.{fields_text, object_text}
use Rattle.messages.specs.ResponseText.{composite_period_text}
use Rattle.std.specs.String.{string_bytes}
use Rattle.messages.proofs.TextPieces.{two_values, begun, goes_on, ends_early, stayed}
use Rattle.messages.proofs.response_text.push_composite_period.Goals as goal

pub returns : goal.returns
unfolding composite_period_text fields_text object_text
returns c =
    two_values _ (codes "{\"startPeriod\":") _ (codes ",\"limit\":") _ (codes "}")
    _ _ _ _ _
    c.in_ok-push_str.ensures.bytes c.in_ok-push_integer.ensures c.in_ok-push_str-2.ensures.bytes
    c.in_ok-push_tenths.ensures c.in_ok-push_str-3.ensures.bytes

-- an append that fails leaves those before it

pub returns-in_err-push_integer : goal.returns-in_err-push_integer
returns-in_err-push_integer c =
    ends_early _ (string_bytes c.args.out.now) _ _ (composite_period_text c.args.period.now)
    c.from_residual-in_err-push_integer.ensures.0
    (begun _ _ _ c.in_ok-push_str.ensures.bytes)
    c.in_err-push_integer.ensures

pub returns-in_err-push_str-2 : goal.returns-in_err-push_str-2
returns-in_err-push_str-2 c =
    ends_early _ (string_bytes c.args.out.now) _ _ (composite_period_text c.args.period.now)
    c.from_residual-in_err-push_str-2.ensures.0
    (goes_on _ _ _ _ (begun _ _ _ c.in_ok-push_str.ensures.bytes) c.in_ok-push_integer.ensures)
    (stayed _ _ c.in_err-push_str-2.ensures.bytes)

pub returns-in_err-push_tenths : goal.returns-in_err-push_tenths
returns-in_err-push_tenths c =
    ends_early _ (string_bytes c.args.out.now) _ _ (composite_period_text c.args.period.now)
    c.from_residual-in_err-push_tenths.ensures.0
    (goes_on _ _ _ _ (goes_on _ _ _ _ (begun _ _ _ c.in_ok-push_str.ensures.bytes) c.in_ok-push_integer.ensures) c.in_ok-push_str-2.ensures.bytes)
    c.in_err-push_tenths.ensures
