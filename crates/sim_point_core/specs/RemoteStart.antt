-- Whether a charge point accepts a remote start, and its answer (OCPP 1.6, 5.11).
use Rattle.std.specs.Prelude.{ℕ, Bool, ◌&&◌, is_none, List, Option, Some, None, option_map, Result, Ok, Err, codes, if◌then◌else◌}
use Rattle.ocpp_scalars.specs.declared.refusal.Refusal.{Refusal}
use Rattle.profile.specs.declared.unit.Unit.{Unit}
use Rattle.profile.specs.declared.charging_profile.Profile.{Profile}
use Rattle.profile.specs.declared.parts.ProfileParts.{ProfileParts}
use Rattle.profile.specs.Parts.{profile_of_parts}
use Rattle.profile.specs.Purpose.{is_tx}
use Rattle.profile.specs.Unit.{unit_eq}
use Rattle.transactions.specs.ActiveTable.{active_at}
use Rattle.point_book.specs.Book.{BookState}
use Rattle.ocppj_frame.specs.Write.{call_result_text}
use Rattle.messages.specs.declared.action.RemoteStartTransaction.{RemoteStartTransaction}
use Rattle.messages.specs.ResponseText.{status_text}
use Rattle.sim_point_core.specs.declared.sim_step.SimStep.{SimStep}
use Rattle.sim_point_core.specs.declared.sim_step.SimStep.TheVariants.{RemoteStart}
use Rattle.sim_point_core.specs.PointCall.{has_connector}

-- the point has the connector, and no transaction is active there
abbrev pub may_start : BookState → ℕ → Bool
may_start book connector =
    has_connector book connector && is_none (active_at book.transactions connector)

-- A profile is for the transaction that begins, and so a TxProfile. Its limits are in the point's
-- unit (this system's choice).
abbrev pub fits : Unit → Profile → Bool
fits unit profile = is_tx profile.purpose && unit_eq profile.schedule.unit unit

abbrev pub profile_if_fit : Unit → Result Profile Refusal → Option (Option Profile)
profile_if_fit unit (Ok profile) = if fits unit profile then Some (Some profile) else None
profile_if_fit unit (Err refusal) = None

-- the profile of the start, if one is given; None if the point can't keep it
abbrev pub profile_kept : Unit → Option ProfileParts → Option (Option Profile)
profile_kept unit None = Some None
profile_kept unit (Some parts) = profile_if_fit unit (profile_of_parts parts)

-- the step that it becomes, or None if the point rejects it
abbrev pub start_kept : Unit → BookState → RemoteStartTransaction → Option SimStep
start_kept unit book request =
    if may_start book request.connector
    then option_map (RemoteStart request.connector request.id_tag)
    (profile_kept unit request.profile)
    else None

-- RemoteStartTransaction.conf (OCPP 1.6, chapter 6)
abbrev pub status_answer : List ℕ → Bool → List ℕ
status_answer id is_accepted =
    call_result_text id (status_text (if is_accepted then codes "Accepted" else codes "Rejected"))
