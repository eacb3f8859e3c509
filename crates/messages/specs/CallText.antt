-- The texts of calls to a charge point, byte for byte: the keys in the order of OCPP 1.6, chapters
-- 6 and 7, without absent fields, without blanks, limits with one decimal.
use Rattle.std.specs.Prelude.{Bool, true, false, ℕ, ℤ, List, [], ◌∷◌, ◌++◌, map, Option, Some, None, option_map, codes}
use Rattle.std.specs.List.{filter_map}
use Rattle.std.specs.Fmt.{decimal, signed_decimal}
use Rattle.json.specs.Print.{quoted}
use Rattle.ocpp_scalars.specs.Writing.{tenths_text}
use Rattle.ocppj_frame.specs.Write as frames
use Rattle.profile.specs.declared.charging_profile.Profile.{Profile}
use Rattle.profile.specs.declared.criteria.Criteria.{Criteria}
use Rattle.profile.specs.declared.period.Period.{Period}
use Rattle.profile.specs.declared.purpose.Purpose.{Purpose}
use Rattle.profile.specs.declared.schedule.Schedule.{Schedule}
use Rattle.profile.specs.declared.unit.Unit.{Unit}
use Rattle.messages.specs.ObjectText.{list_text, object_text, string_text, time_text}
use Rattle.messages.specs.Names.{kind_name, purpose_name, recurrency_name, recurrency_of, unit_text}
use Rattle.messages.specs.declared.call.Call.{Call}
use Rattle.messages.specs.declared.call.CallBody.{CallBody}
use Rattle.messages.specs.declared.call.CallBody.TheVariants.{Clear, Set, Audit, RemoteStart}
use Rattle.messages.specs.declared.call_text.Criterion.{Criterion}
use Rattle.messages.specs.declared.call_text.Criterion.TheVariants as criterion

-- OCPP 1.6, chapter 7, ChargingSchedulePeriod
unfoldable pub period_text : Period → List ℕ
period_text period = object_text (
    (codes "startPeriod", Some (decimal period.start))
    ∷ (codes "limit", Some (tenths_text period.limit))
    ∷ (codes "numberPhases", option_map decimal period.number_phases)
    ∷ [])

-- OCPP 1.6, chapter 7, ChargingSchedule
unfoldable pub schedule_text : Schedule → List ℕ
schedule_text schedule = object_text (
    (codes "duration", option_map decimal schedule.duration)
    ∷ (codes "startSchedule", option_map time_text schedule.start)
    ∷ (codes "chargingRateUnit", Some (string_text (unit_text schedule.unit)))
    ∷ (codes "chargingSchedulePeriod", Some (list_text (map period_text schedule.periods)))
    ∷ (codes "minChargingRate", option_map tenths_text schedule.min_charging_rate)
    ∷ [])

-- OCPP 1.6, chapter 7, ChargingProfile, up to its schedule
abbrev pub own_fields : Profile → List (List ℕ × Option (List ℕ))
own_fields profile =
    (codes "chargingProfileId", Some (signed_decimal profile.id))
    ∷ (codes "transactionId", option_map signed_decimal profile.transaction)
    ∷ (codes "stackLevel", Some (decimal profile.stack_level))
    ∷ (codes "chargingProfilePurpose", Some (string_text (purpose_name profile.purpose)))
    ∷ (codes "chargingProfileKind", Some (string_text (kind_name profile.kind)))
    ∷ (codes "recurrencyKind", option_map (λ r. string_text (recurrency_name r)) (recurrency_of profile.kind))
    ∷ (codes "validFrom", option_map time_text profile.valid_from)
    ∷ (codes "validTo", option_map time_text profile.valid_to)
    ∷ []

unfoldable pub profile_text : Profile → List ℕ
profile_text profile =
    object_text (own_fields profile
    ++ ((codes "chargingSchedule", Some (schedule_text profile.schedule)) ∷ []))

-- OCPP 1.6, chapter 6, ClearChargingProfile.req: the criteria as they were given
abbrev pub clear_fields : Criteria → List (List ℕ × Option (List ℕ))
clear_fields criteria =
    (codes "id", option_map signed_decimal criteria.id)
    ∷ (codes "connectorId", option_map decimal criteria.connector)
    ∷ (codes "chargingProfilePurpose", option_map (λ p. string_text (purpose_name p)) criteria.purpose)
    ∷ (codes "stackLevel", option_map decimal criteria.stack_level)
    ∷ []

-- OCPP 1.6, chapter 6, SetChargingProfile.req
abbrev pub set_fields : ℕ → Profile → List (List ℕ × Option (List ℕ))
set_fields connector profile =
    (codes "connectorId", Some (decimal connector))
    ∷ (codes "csChargingProfiles", Some (profile_text profile))
    ∷ []

-- OCPP 1.6, chapter 6, GetCompositeSchedule.req
abbrev pub audit_fields : ℕ → ℕ → Unit → List (List ℕ × Option (List ℕ))
audit_fields connector duration unit =
    (codes "connectorId", Some (decimal connector))
    ∷ (codes "duration", Some (decimal duration))
    ∷ (codes "chargingRateUnit", Some (string_text (unit_text unit)))
    ∷ []

-- OCPP 1.6, chapter 6, RemoteStartTransaction.req
abbrev pub remote_start_fields : ℕ → List ℕ → Option Profile → List (List ℕ × Option (List ℕ))
remote_start_fields connector tag profile =
    (codes "connectorId", Some (decimal connector))
    ∷ (codes "idTag", Some (quoted tag))
    ∷ (codes "chargingProfile", option_map profile_text profile)
    ∷ []

abbrev pub action_name : CallBody → List ℕ
action_name (Clear criteria) = codes "ClearChargingProfile"
action_name (Set connector profile) = codes "SetChargingProfile"
action_name (Audit connector duration unit) = codes "GetCompositeSchedule"
action_name (RemoteStart connector tag profile) = codes "RemoteStartTransaction"

-- the fields of a call's payload
abbrev pub payload_fields : CallBody → List (List ℕ × Option (List ℕ))
payload_fields (Clear criteria) = clear_fields criteria
payload_fields (Set connector profile) = set_fields connector profile
payload_fields (Audit connector duration unit) = audit_fields connector duration unit
payload_fields (RemoteStart connector tag profile) = remote_start_fields connector tag profile

abbrev pub payload_text : CallBody → List ℕ
payload_text body = object_text (payload_fields body)

-- the text of a CALL (OCPP-J 1.6, 4.2.1), whose message id is its number in decimal
abbrev pub call_text : Call → List ℕ
call_text call =
    frames.call_text (decimal call.number) (action_name call.body) (payload_text call.body)

-- ---- the subject of a call, in words for people

-- the criteria of a clear, if they are given
abbrev pub criteria_given : Criteria → List (Option Criterion)
criteria_given criteria =
    option_map criterion.Id criteria.id
    ∷ option_map criterion.Connector criteria.connector
    ∷ option_map criterion.Purpose criteria.purpose
    ∷ option_map criterion.StackLevel criteria.stack_level
    ∷ []

abbrev pub criterion_words : Criterion → List ℕ
criterion_words (criterion.Id id) = codes "id " ++ signed_decimal id
criterion_words (criterion.Connector connector) = codes "connector " ++ decimal connector
criterion_words (criterion.Purpose purpose) = purpose_name purpose
criterion_words (criterion.StackLevel level) = codes "stack level " ++ decimal level

abbrev pub later_words : List Criterion → List ℕ
later_words [] = []
later_words (first ∷ rest) = codes ", " ++ criterion_words first ++ later_words rest

-- a clear without a criterion is one of every profile
abbrev pub words_of : List Criterion → List ℕ
words_of [] = codes "every profile"
words_of (first ∷ rest) = criterion_words first ++ later_words rest

-- the rest of the criteria, by whether some of them are written
abbrev pub rest_of_words : Bool → List Criterion → List ℕ
rest_of_words false criteria = words_of criteria
rest_of_words true criteria = later_words criteria

abbrev pub criteria_text : List (Option Criterion) → List ℕ
criteria_text criteria = words_of (filter_map (λ given. given) criteria)

-- a profile by its purpose and its id
abbrev pub profile_words : Purpose → ℤ → List ℕ
profile_words purpose id = purpose_name purpose ++ (codes " " ++ signed_decimal id)

-- an audit by its connector and its duration, in seconds
abbrev pub audit_words : ℕ → ℕ → List ℕ
audit_words connector duration =
    codes "connector " ++ decimal connector ++ (codes " for " ++ decimal duration ++ codes " s")

-- the profile that a remote start has, if any
abbrev pub words_of_profile : Option Profile → List ℕ
words_of_profile None = []
words_of_profile (Some profile) = codes " with " ++ profile_words profile.purpose profile.id

abbrev pub tag_words : ℕ → List ℕ → List ℕ
tag_words connector tag = codes "idTag " ++ tag ++ (codes " at connector " ++ decimal connector)

-- a remote start by its idTag, its connector and its profile
abbrev pub remote_start_words : ℕ → List ℕ → Option Profile → List ℕ
remote_start_words connector tag profile =
    tag_words connector tag ++ words_of_profile profile

-- the subject of a call: its profiles, the requested schedule, or the requested start
abbrev pub subject_text : CallBody → List ℕ
subject_text (Clear criteria) = criteria_text (criteria_given criteria)
subject_text (Set connector profile) =
    profile_words profile.purpose profile.id ++ (codes " at connector " ++ decimal connector)
subject_text (Audit connector duration unit) = audit_words connector duration
subject_text (RemoteStart connector tag profile) = remote_start_words connector tag profile
