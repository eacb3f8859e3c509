-- Added for the prover: the parts make one object, with the texts of the optional values.
use Rattle.std.specs.String.{string_bytes}
use Rattle.std.proofs.Common.{[], ◌∷◌, codes, option_map}
use Rattle.std.specs.Fmt.{decimal}
use Rattle.messages.specs.CallText.{schedule_text}
use Rattle.messages.specs.ObjectText.{time_text}
use Rattle.messages.proofs.FieldsText.{nested_object}
use Rattle.messages.proofs.TextPieces.{begun, goes_on, stayed, ends_early}
use Rattle.messages.proofs.call_text.push_schedule.Goals as goal

pub returns : goal.returns
unfolding schedule_text
returns c =
    let schedule = c.args.schedule.now in
    let fields = rw (c.whole.ensures, c.time.ensures) at c.in_ok-push_fields.ensures in
    let later = rw (c.tenths.ensures) at c.in_ok-push_later_fields.ensures in
    let periods = rw (c.as_slice.ensures.value) at c.in_ok-push_list.ensures in
    nested_object _ ((codes "duration", option_map decimal schedule.duration) ∷ (codes "startSchedule", option_map time_text schedule.start) ∷ []) [] _
    _ _ (codes "chargingSchedulePeriod") _ _ _ _ _ _ _
    c.in_ok-push_str.ensures.bytes fields c.in_ok-push_str-2.ensures.bytes periods
    later c.in_ok-push_str-3.ensures.bytes

-- an append that fails leaves those before it

pub returns-in_err-push_fields : goal.returns-in_err-push_fields
returns-in_err-push_fields c =
    ends_early _ (string_bytes c.args.out.now) _ _ (schedule_text c.args.schedule.now) c.from_residual-in_err-push_fields.ensures.0
    (begun _ _ _ c.in_ok-push_str.ensures.bytes)
    c.in_err-push_fields.ensures

pub returns-in_err-push_str-2 : goal.returns-in_err-push_str-2
returns-in_err-push_str-2 c =
    ends_early _ (string_bytes c.args.out.now) _ _ (schedule_text c.args.schedule.now) c.from_residual-in_err-push_str-2.ensures.0
    (goes_on _ _ _ _ (begun _ _ _ c.in_ok-push_str.ensures.bytes) c.in_ok-push_fields.ensures)
    (stayed _ _ c.in_err-push_str-2.ensures.bytes)

pub returns-in_err-push_list : goal.returns-in_err-push_list
returns-in_err-push_list c =
    ends_early _ (string_bytes c.args.out.now) _ _ (schedule_text c.args.schedule.now) c.from_residual-in_err-push_list.ensures.0
    (goes_on _ _ _ _ (goes_on _ _ _ _ (begun _ _ _ c.in_ok-push_str.ensures.bytes) c.in_ok-push_fields.ensures) c.in_ok-push_str-2.ensures.bytes)
    c.in_err-push_list.ensures

pub returns-in_err-push_later_fields : goal.returns-in_err-push_later_fields
returns-in_err-push_later_fields c =
    ends_early _ (string_bytes c.args.out.now) _ _ (schedule_text c.args.schedule.now) c.from_residual-in_err-push_later_fields.ensures.0
    (goes_on _ _ _ _ (goes_on _ _ _ _ (goes_on _ _ _ _ (begun _ _ _ c.in_ok-push_str.ensures.bytes) c.in_ok-push_fields.ensures) c.in_ok-push_str-2.ensures.bytes) c.in_ok-push_list.ensures)
    c.in_err-push_later_fields.ensures

pub returns-in_err-push_str-3 : goal.returns-in_err-push_str-3
returns-in_err-push_str-3 c =
    ends_early _ (string_bytes c.args.out.now) _ _ (schedule_text c.args.schedule.now) c.from_residual-in_err-push_str-3.ensures.0
    (goes_on _ _ _ _ (goes_on _ _ _ _ (goes_on _ _ _ _ (goes_on _ _ _ _ (begun _ _ _ c.in_ok-push_str.ensures.bytes) c.in_ok-push_fields.ensures) c.in_ok-push_str-2.ensures.bytes) c.in_ok-push_list.ensures) c.in_ok-push_later_fields.ensures)
    (stayed _ _ c.in_err-push_str-3.ensures.bytes)
