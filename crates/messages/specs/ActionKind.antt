-- The table of actions. Each has its name, the side that sends it, and either a fixed answer or the
-- fields that are read, in the order of the checks (OCPP 1.6, chapters 4 to 6;
-- RemoteStartTransaction's connectorId may be absent there). AuditPoint and PointStatus are our
-- own.
use Rattle.std.specs.Prelude.{ℕ, List, [], ◌∷◌, Bool, true, false, Option, Some, None, codes, option_map, if◌then◌else◌}
use Rattle.std.specs.Str.{bytes_eq}
use Rattle.messages.specs.declared.action_kind.ActionKind.{ActionKind}
use Rattle.messages.specs.declared.action_kind.ActionKind.TheVariants.{SetChargingProfile, ClearChargingProfile, GetCompositeSchedule, RemoteStartTransaction, AuditPoint, PointStatus, BootNotification, Heartbeat, Authorize, StartTransaction, StopTransaction, StatusNotification, MeterValues, FirmwareStatusNotification, DiagnosticsStatusNotification, DataTransfer}
use Rattle.messages.specs.declared.fixed_answer.FixedAnswer.{FixedAnswer}
use Rattle.messages.specs.declared.fixed_answer.FixedAnswer.TheVariants as answers
use Rattle.messages.specs.declared.side.Side.{Side}
use Rattle.messages.specs.declared.side.Side.TheVariants.{Operator, Point}
use Rattle.messages.specs.declared.field_name.FieldName.TheVariants.{ChargingProfile, ChargingProfilePurpose, ChargingRateUnit, ConnectorId, CsChargingProfiles, Duration, Id, IdTag, MeterStart, StackLevel, Timestamp, TransactionId}
use Rattle.messages.specs.declared.field_row.FieldKind.TheVariants.{Whole, WholeFromZero, Time, IdToken, PurposeName, UnitName, Object}
use Rattle.messages.specs.declared.field_row.ObjectKind.TheVariants.{Profile}
use Rattle.messages.specs.declared.field_row.FieldRow.{FieldRow}
use Rattle.messages.specs.declared.field_row.FieldRow.TheVariants.{Required, Optional}

pub record ActionRow : Type 0 where
  pub name : List ℕ
  pub side : Side
  pub fixed_answer : Option FixedAnswer
  pub fields : List FieldRow

-- an action whose fields are read
abbrev pub with_fields : Side → List ℕ → List FieldRow → ActionRow
with_fields side name fields =
    record { name = name; side = side; fixed_answer = None; fields = fields }

-- an action with a fixed answer, whose fields aren't read
abbrev pub answered : Side → List ℕ → FixedAnswer → ActionRow
answered side name answer =
    record { name = name; side = side; fixed_answer = Some answer; fields = [] }

abbrev pub row_of : ActionKind → ActionRow
row_of SetChargingProfile = with_fields Operator (codes "SetChargingProfile")
    (Required ConnectorId WholeFromZero
    ∷ Required CsChargingProfiles (Object Profile)
    ∷ [])
row_of ClearChargingProfile = with_fields Operator (codes "ClearChargingProfile")
    (Optional Id Whole
    ∷ Optional ConnectorId WholeFromZero
    ∷ Optional ChargingProfilePurpose PurposeName
    ∷ Optional StackLevel WholeFromZero
    ∷ [])
row_of GetCompositeSchedule = with_fields Operator (codes "GetCompositeSchedule")
    (Required ConnectorId WholeFromZero
    ∷ Required Duration WholeFromZero
    ∷ Optional ChargingRateUnit UnitName
    ∷ [])
row_of RemoteStartTransaction = with_fields Operator (codes "RemoteStartTransaction")
    (Required ConnectorId WholeFromZero
    ∷ Required IdTag IdToken
    ∷ Optional ChargingProfile (Object Profile)
    ∷ [])
row_of AuditPoint = with_fields Operator (codes "AuditPoint")
    (Required ConnectorId WholeFromZero
    ∷ Required Duration WholeFromZero
    ∷ [])
row_of PointStatus = with_fields Operator (codes "PointStatus") []
row_of BootNotification = answered Point (codes "BootNotification") answers.BootNotification
row_of Heartbeat = answered Point (codes "Heartbeat") answers.Heartbeat
row_of Authorize = answered Point (codes "Authorize") answers.Authorize
row_of StartTransaction = with_fields Point (codes "StartTransaction")
    (Required ConnectorId WholeFromZero
    ∷ Required IdTag IdToken
    ∷ Required MeterStart Whole
    ∷ Required Timestamp Time
    ∷ [])
row_of StopTransaction = with_fields Point (codes "StopTransaction")
    (Required TransactionId Whole ∷ [])
row_of StatusNotification = answered Point (codes "StatusNotification") answers.Empty
row_of MeterValues = answered Point (codes "MeterValues") answers.Empty
row_of FirmwareStatusNotification =
    answered Point (codes "FirmwareStatusNotification") answers.Empty
row_of DiagnosticsStatusNotification =
    answered Point (codes "DiagnosticsStatusNotification") answers.Empty
row_of DataTransfer = answered Point (codes "DataTransfer") answers.UnknownVendorId

abbrev pub name_of_kind : ActionKind → List ℕ
name_of_kind kind = (row_of kind).name

-- The side that sends an action.
abbrev pub side_of_kind : ActionKind → Side
side_of_kind kind = (row_of kind).side

-- The fixed answer to an action, if its fields aren't read.
abbrev pub answer_of_kind : ActionKind → Option FixedAnswer
answer_of_kind kind = (row_of kind).fixed_answer

-- The fields of an action that are read.
abbrev pub fields_of : ActionKind → List FieldRow
fields_of kind = (row_of kind).fields

-- All actions; by the law `action_names` none is missing.
abbrev pub action_kinds : List ActionKind
action_kinds =
    SetChargingProfile
    ∷ ClearChargingProfile
    ∷ GetCompositeSchedule
    ∷ RemoteStartTransaction
    ∷ AuditPoint
    ∷ PointStatus
    ∷ BootNotification
    ∷ Heartbeat
    ∷ Authorize
    ∷ StartTransaction
    ∷ StopTransaction
    ∷ StatusNotification
    ∷ MeterValues
    ∷ FirmwareStatusNotification
    ∷ DiagnosticsStatusNotification
    ∷ DataTransfer
    ∷ []

abbrev pub kind_in : List ActionKind → List ℕ → Option ActionKind
kind_in [] text = None
kind_in (kind ∷ kinds) text =
    if bytes_eq text (name_of_kind kind) then Some kind else kind_in kinds text

-- The action of a name, exactly as written.
abbrev pub action_named : List ℕ → Option ActionKind
action_named text = kind_in action_kinds text

-- The side that sends the action of a name.
abbrev pub side_of : List ℕ → Option Side
side_of text = option_map side_of_kind (action_named text)

abbrev pub side_eq : Side → Side → Bool
side_eq Operator Operator = true
side_eq Operator Point = false
side_eq Point Operator = false
side_eq Point Point = true

-- an action that this side sends
abbrev pub kind_of_sender : Side → Option ActionKind → Option ActionKind
kind_of_sender sender None = None
kind_of_sender sender (Some kind) =
    if side_eq (side_of_kind kind) sender then Some kind else None
