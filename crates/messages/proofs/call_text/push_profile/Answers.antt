-- Added for the prover: the parts make one object.
use Rattle.std.specs.String.{string_bytes}
use Rattle.std.proofs.Common.{codes}
use Rattle.messages.specs.CallText.{profile_text}
use Rattle.messages.proofs.FieldsText.{object_of_two}
use Rattle.messages.proofs.TextPieces.{begun, goes_on, stayed, ends_early}
use Rattle.messages.proofs.call_text.push_profile.Goals as goal

pub returns : goal.returns
unfolding profile_text
returns c =
    object_of_two _ _ _ _ (codes "chargingSchedule") _ _ _ _ _ _
    c.in_ok-push_str.ensures.bytes c.in_ok-push_profile_scalars.ensures c.in_ok-push_str-2.ensures.bytes
    c.in_ok-push_schedule.ensures c.in_ok-push_str-3.ensures.bytes

-- an append that fails leaves those before it

pub returns-in_err-push_profile_scalars : goal.returns-in_err-push_profile_scalars
returns-in_err-push_profile_scalars c =
    ends_early _ (string_bytes c.args.out.now) _ _ (profile_text c.args.profile.now) c.from_residual-in_err-push_profile_scalars.ensures.0
    (begun _ _ _ c.in_ok-push_str.ensures.bytes)
    c.in_err-push_profile_scalars.ensures

pub returns-in_err-push_str-2 : goal.returns-in_err-push_str-2
returns-in_err-push_str-2 c =
    ends_early _ (string_bytes c.args.out.now) _ _ (profile_text c.args.profile.now) c.from_residual-in_err-push_str-2.ensures.0
    (goes_on _ _ _ _ (begun _ _ _ c.in_ok-push_str.ensures.bytes) c.in_ok-push_profile_scalars.ensures)
    (stayed _ _ c.in_err-push_str-2.ensures.bytes)

pub returns-in_err-push_schedule : goal.returns-in_err-push_schedule
returns-in_err-push_schedule c =
    ends_early _ (string_bytes c.args.out.now) _ _ (profile_text c.args.profile.now) c.from_residual-in_err-push_schedule.ensures.0
    (goes_on _ _ _ _ (goes_on _ _ _ _ (begun _ _ _ c.in_ok-push_str.ensures.bytes) c.in_ok-push_profile_scalars.ensures) c.in_ok-push_str-2.ensures.bytes)
    c.in_err-push_schedule.ensures

pub returns-in_err-push_str-3 : goal.returns-in_err-push_str-3
returns-in_err-push_str-3 c =
    ends_early _ (string_bytes c.args.out.now) _ _ (profile_text c.args.profile.now) c.from_residual-in_err-push_str-3.ensures.0
    (goes_on _ _ _ _ (goes_on _ _ _ _ (goes_on _ _ _ _ (begun _ _ _ c.in_ok-push_str.ensures.bytes) c.in_ok-push_profile_scalars.ensures) c.in_ok-push_str-2.ensures.bytes) c.in_ok-push_schedule.ensures)
    (stayed _ _ c.in_err-push_str-3.ensures.bytes)
