-- Added for the prover: the parts make the fields of one object.
use Rattle.std.specs.String.{string_bytes}
use Rattle.messages.specs.ObjectText.{fields_text}
use Rattle.messages.specs.CallText.{remote_start_fields}
use Rattle.std.proofs.Common.{[], codes}
use Rattle.messages.proofs.FieldsText.{fields_of_two_and_later}
use Rattle.messages.proofs.TextPieces.{begun, goes_on, stayed, ends_early}
use Rattle.messages.proofs.call_text.push_remote_start.Goals as goal

pub returns : goal.returns
returns c =
    let tag = rw (c.as_str.ensures.text) at c.in_ok-push_string.ensures in
    fields_of_two_and_later _ [] _ _ _ (codes "idTag") _ _ _ _ _
    c.in_ok-push_fields.ensures c.in_ok-push_str.ensures.bytes tag
    c.in_ok-push_profile_field.ensures

-- an append that fails leaves those before it

pub returns-in_err-push_str : goal.returns-in_err-push_str
returns-in_err-push_str c =
    ends_early _ (string_bytes c.args.out.now) _ _ (fields_text (remote_start_fields c.args.connector c.args.id_tag.now c.args.profile.now)) c.from_residual-in_err-push_str.ensures.0
    (begun _ _ _ c.in_ok-push_fields.ensures)
    (stayed _ _ c.in_err-push_str.ensures.bytes)

pub returns-in_err-push_string : goal.returns-in_err-push_string
returns-in_err-push_string c =
    ends_early _ (string_bytes c.args.out.now) _ _ (fields_text (remote_start_fields c.args.connector c.args.id_tag.now c.args.profile.now)) c.from_residual-in_err-push_string.ensures.0
    (goes_on _ _ _ _ (begun _ _ _ c.in_ok-push_fields.ensures) c.in_ok-push_str.ensures.bytes)
    c.in_err-push_string.ensures

pub returns-in_err-push_profile_field : goal.returns-in_err-push_profile_field
returns-in_err-push_profile_field c =
    ends_early _ (string_bytes c.args.out.now) _ _ (fields_text (remote_start_fields c.args.connector c.args.id_tag.now c.args.profile.now)) c.from_residual-in_err-push_profile_field.ensures.0
    (goes_on _ _ _ _ (goes_on _ _ _ _ (begun _ _ _ c.in_ok-push_fields.ensures) c.in_ok-push_str.ensures.bytes) c.in_ok-push_string.ensures)
    c.in_err-push_profile_field.ensures
