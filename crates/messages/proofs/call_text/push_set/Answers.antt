-- Added for the prover: the parts make the fields of one object.
use Rattle.std.specs.String.{string_bytes}
use Rattle.messages.specs.ObjectText.{fields_text}
use Rattle.messages.specs.CallText.{set_fields}
use Rattle.std.proofs.Common.{codes}
use Rattle.messages.proofs.FieldsText.{fields_of_two}
use Rattle.messages.proofs.TextPieces.{begun, goes_on, stayed, ends_early}
use Rattle.messages.proofs.call_text.push_set.Goals as goal

pub returns : goal.returns
returns c =
    fields_of_two _ _ _ _ (codes "csChargingProfiles") _ _ _ _
    c.in_ok-push_fields.ensures c.in_ok-push_str.ensures.bytes c.in_ok-push_profile.ensures

-- an append that fails leaves those before it

pub returns-in_err-push_str : goal.returns-in_err-push_str
returns-in_err-push_str c =
    ends_early _ (string_bytes c.args.out.now) _ _ (fields_text (set_fields c.args.connector c.args.profile.now)) c.from_residual-in_err-push_str.ensures.0
    (begun _ _ _ c.in_ok-push_fields.ensures)
    (stayed _ _ c.in_err-push_str.ensures.bytes)

pub returns-in_err-push_profile : goal.returns-in_err-push_profile
returns-in_err-push_profile c =
    ends_early _ (string_bytes c.args.out.now) _ _ (fields_text (set_fields c.args.connector c.args.profile.now)) c.from_residual-in_err-push_profile.ensures.0
    (goes_on _ _ _ _ (begun _ _ _ c.in_ok-push_fields.ensures) c.in_ok-push_str.ensures.bytes)
    c.in_err-push_profile.ensures
