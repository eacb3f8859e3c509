-- A charge point's answers to actions, and its book after them.
use Rattle.std.specs.Prelude.{ℕ, nat_lt, ◌==◌, ◌&&◌, not, Bool, false, length, Option, Some, None, Result, Ok, Err, if◌then◌else◌}
use Rattle.std.specs.List.{list_any}
use Rattle.ocpp_scalars.specs.declared.refusal.Refusal.{Refusal}
use Rattle.ocpp_scalars.specs.declared.refusal.Refusal.TheVariants.{UnknownConnector, MaxNotAtZero, TxAtZero, WrongUnit}
use Rattle.profile.specs.declared.unit.Unit.{Unit}
use Rattle.profile.specs.declared.charging_profile.Profile.{Profile}
use Rattle.profile.specs.declared.row.Row.{Row}
use Rattle.profile.specs.declared.criteria.Criteria.{Criteria}
use Rattle.profile.specs.Parts.{profile_of_parts}
use Rattle.profile.specs.Changes.{matches}
use Rattle.profile.specs.Purpose.{is_charge_point_max, is_tx}
use Rattle.profile.specs.Unit.{unit_eq}
use Rattle.meaning.specs.declared.ask.Ask.{Ask}
use Rattle.meaning.specs.Ask.{ask_of}
use Rattle.meaning.specs.Limit.{limit_asked}
use Rattle.meaning.specs.Composite.{CompositeSchedule}
use Rattle.meaning.specs.ByCases.Exact.{exact_schedule}
use Rattle.point_book.specs.Book.{BookState, state_of}
use Rattle.point_book.specs.Changes.{first_cause, install_refusal, book_installed, book_cleared}
use Rattle.messages.specs.declared.action.Action.{Action}
use Rattle.messages.specs.declared.action.Action.TheVariants as actions
use Rattle.messages.specs.declared.action.ScheduleRequest.{ScheduleRequest}
use Rattle.messages.specs.declared.response.Response.{Response}
use Rattle.messages.specs.declared.response.Response.TheVariants.{Accepted, Rejected, Unknown, Schedule}
use Rattle.sim_point_core.specs.Request.{not_implemented}

-- the response, and the point's book after it
pub record Answered : Type 0 where
  pub response : Response
  pub book : BookState

-- the response, with the book unchanged
abbrev pub unchanged : BookState → Response → Answered
unchanged book response = record { response = response; book = book }

-- ---- SetChargingProfile (OCPP 1.6, 5.16)

-- the row of the profile, installed at the moment of its message, or why its fields don't make one
abbrev pub row_made : ℕ → ℕ → Result Profile Refusal → Result Row Refusal
row_made now connector (Ok profile) =
    Ok (record { connector = connector; moment = now; profile = profile })
row_made now connector (Err refusal) = Err refusal

-- Why a profile may not be where it is sent, in the order of the checks. The point has the
-- connector. A ChargePointMaxProfile is only at connector 0, and a TxProfile never is (3.13.1 and
-- 5.16.4). Its limits are in the point's unit (this system's choice).
abbrev pub place_refusal : Unit → BookState → Row → Option Refusal
place_refusal unit book row =
    if nat_lt (length book.ceilings) row.connector then Some UnknownConnector
    else if is_charge_point_max row.profile.purpose && nat_lt 0 row.connector then Some MaxNotAtZero
    else if is_tx row.profile.purpose && (row.connector == 0) then Some TxAtZero
    else if not (unit_eq row.profile.schedule.unit unit) then Some WrongUnit
    else None

-- after these, a TxProfile is for the active transaction, and there is room for the row
abbrev pub row_refusal : Unit → BookState → Row → Option Refusal
row_refusal unit book row = first_cause (place_refusal unit book row) (install_refusal book row)

abbrev pub installed_unless : BookState → Row → Option Refusal → Answered
installed_unless book row None = record { response = Accepted; book = book_installed book row }
installed_unless book row (Some refusal) = unchanged book (Rejected refusal)

abbrev pub installed_if_made : Unit → BookState → Result Row Refusal → Answered
installed_if_made unit book (Ok row) = installed_unless book row (row_refusal unit book row)
installed_if_made unit book (Err refusal) = unchanged book (Rejected refusal)

-- ---- ClearChargingProfile (OCPP 1.6, 5.5)

abbrev pub cleared_if_any : BookState → Criteria → Answered
cleared_if_any book criteria =
    if list_any (matches criteria) book.rows
    then record { response = Accepted; book = book_cleared book criteria }
    else unchanged book Unknown

-- ---- GetCompositeSchedule (OCPP 1.6, 5.7)

abbrev pub is_other_unit : Option Unit → Unit → Bool
is_other_unit None unit = false
is_other_unit (Some asked) unit = not (unit_eq asked unit)

-- the request for a schedule from a moment on, or the first reason for a refusal
abbrev pub ask_at : Unit → BookState → ℕ → ScheduleRequest → Result Ask Refusal
ask_at unit book now request =
    if nat_lt (length book.ceilings) request.connector then Err UnknownConnector
    else if is_other_unit request.unit unit then Err WrongUnit
    else ask_of request.connector now request.duration

-- the exact schedule of the point's profiles, in its unit, or that it is too long
abbrev pub schedule_or : Unit → Ask → Result CompositeSchedule Refusal → Response
schedule_or unit ask (Ok schedule) = Schedule
    (record { connector = ask.connector; start = ask.start; unit = unit; schedule = schedule })
schedule_or unit ask (Err refusal) = Rejected refusal

abbrev pub schedule_of_ask : Unit → BookState → Result Ask Refusal → Response
schedule_of_ask unit book (Ok ask) = schedule_or unit ask
    (exact_schedule (limit_asked (state_of book) ask.connector ask.start) ask.duration)
schedule_of_ask unit book (Err refusal) = Rejected refusal

-- ---- actions

-- The answer of a point with this unit and this book to an action at a moment, and its book then.
-- RemoteStart.antt has RemoteStartTransaction; any other action isn't implemented.
abbrev pub answered : Unit → BookState → ℕ → Action → Answered
answered unit book now (actions.SetChargingProfile connector parts) =
    installed_if_made unit book (row_made now connector (profile_of_parts parts))
answered unit book now (actions.ClearChargingProfile criteria) = cleared_if_any book criteria
answered unit book now (actions.GetCompositeSchedule request) =
    unchanged book (schedule_of_ask unit book (ask_at unit book now request))
answered unit book now action = unchanged book not_implemented
