-- The first fault of the listed fields is the one at which a reading stops.
use Rattle.std.proofs.Common.{◌≡◌, Bool, true, false, ℕ, List, [], ◌∷◌, ◌++◌, Option, Some, None, Result, Ok, Err, refl, sym, ap, subst, ◌∙◌}
use Rattle.std.specs.Prelude.{◌↔◌, IsOk, if◌then◌else◌}
use Rattle.std.specs.List.{flat_map}
use Rattle.std.specs.Result.{result_err}
use Rattle.ocpp_scalars.specs.ResultSteps.{◌>>=◌}
use Rattle.ocppj_frame.specs.declared.field.Field.{Field}
use Rattle.ocppj_frame.specs.declared.field.Field.TheVariants.{Absent, WrongKind, WrongValue, Value}
use Rattle.ocppj_frame.specs.Tree.{Tree, is_object}
use Rattle.profile.specs.Names.{purpose_named, kind_named, recurrency_named, unit_named}
use Rattle.profile.specs.declared.parts.ProfileParts.{ProfileParts}
use Rattle.profile.specs.declared.period.Period.{Period}
use Rattle.messages.specs.declared.action_kind.ActionKind.{ActionKind}
use Rattle.messages.specs.declared.action_kind.ActionKind.TheVariants.{SetChargingProfile, ClearChargingProfile, GetCompositeSchedule, RemoteStartTransaction, AuditPoint, PointStatus, BootNotification, Heartbeat, Authorize, StartTransaction, StopTransaction, StatusNotification, MeterValues, FirmwareStatusNotification, DiagnosticsStatusNotification, DataTransfer}
use Rattle.messages.specs.declared.call_fault.CallFault.{CallFault}
use Rattle.messages.specs.declared.field_name.FieldName.{FieldName}
use Rattle.messages.specs.declared.field_name.FieldName.TheVariants.{ChargingProfile, ChargingProfileId, ChargingProfileKind, ChargingProfilePurpose, ChargingRateUnit, ChargingSchedule, ChargingSchedulePeriod, ConnectorId, CsChargingProfiles, Duration, Id, IdTag, Limit, MeterStart, MinChargingRate, NumberPhases, RecurrencyKind, StackLevel, StartPeriod, StartSchedule, Timestamp, TransactionId, ValidFrom, ValidTo}
use Rattle.messages.specs.declared.field_row.ObjectKind.TheVariants.{Profile, Schedule}
use Rattle.messages.specs.declared.field_row.ObjectKind.TheVariants as objects
use Rattle.messages.specs.declared.fields.NamedField.{NamedField}
use Rattle.messages.specs.FieldRow.{fields_in}
use Rattle.messages.specs.Fields.{required, required_value, optional, optional_value, whole, whole_from_zero, tenths, instant, one_name_of, list, object, text, as_object, as_id_tag}
use Rattle.messages.specs.ProfileFields.{period_of, each_period_of, unless_empty, periods_of, schedule_of, profile_of, optional_profile_of}
use Rattle.messages.specs.Action.{set_charging_profile_of, clear_charging_profile_of, get_composite_schedule_of, remote_start_of, audit_point_of, id_tag_of, start_transaction_of, stop_transaction_of, action_of_kind}
use Rattle.messages.specs.FieldFaults.{Checked, faults_of_value, entry_faults, empty_fault, entries_faults, id_tag_faults, faults_down, field_faults, HaveNoFault, IsFirstFault}

-- ---- the first fault, computed

abbrev pub first_fault : Checked → Option CallFault
first_fault [] = None
first_fault (None ∷ fields) = first_fault fields
first_fault (Some fault ∷ fields) = Some fault

is_first : (fields : Checked) (fault : CallFault) → first_fault fields ≡ Some fault → IsFirstFault fields fault
is_first [] fault h = cc
is_first (None ∷ fields) fault h =
    let there : IsFirstFault fields fault = is_first fields fault h in
    record { before = None ∷ there.before; after = there.after; stands = ap (λ (l : Checked). None ∷ l) there.stands; none_before = (refl, there.none_before) }
is_first (Some other ∷ fields) fault h =
    record { before = []; after = fields; stands = ap (λ (x : Option CallFault). x ∷ fields) h; none_before = tt }

past : (before after : Checked) (fault : CallFault) → HaveNoFault before → first_fault (before ++ (Some fault ∷ after)) ≡ Some fault
past [] after fault h = refl
past (None ∷ before) after fault h = past before after fault h.1
past (Some other ∷ before) after fault h = cc (h.0)

the_first : (fields : Checked) (fault : CallFault) → IsFirstFault fields fault → first_fault fields ≡ Some fault
the_first fields fault h = ap first_fault h.stands ∙ past h.before h.after fault h.none_before

have_none : (fields : Checked) → first_fault fields ≡ None → HaveNoFault fields
have_none [] h = tt
have_none (None ∷ fields) h = (refl, have_none fields h)
have_none (Some fault ∷ fields) h = cc

no_first : (fields : Checked) → HaveNoFault fields → first_fault fields ≡ None
no_first [] h = refl
no_first (None ∷ fields) h = no_first fields h.1
no_first (Some fault ∷ fields) h = cc (h.0)

-- ---- the fault at which a reading stops

stopped : {A : Type 0} → (reading : Result A CallFault) (fault : CallFault) → result_err reading ≡ Some fault → reading ≡ Err fault
stopped (Ok x) fault e = cc
stopped (Err other) fault e = cc

pub fault_law : {A : Type 0} → (reading : Result A CallFault) (fields : Checked) → result_err reading ≡ first_fault fields → (fault : CallFault) → (reading ≡ Err fault) ↔ IsFirstFault fields fault
fault_law reading fields h fault =
    (λ e. is_first fields fault (sym h ∙ ap result_err e), λ first. stopped reading fault (h ∙ the_first fields fault first))

pub action_law : {A : Type 0} → (reading : Result A CallFault) (fields : Checked) → result_err reading ≡ first_fault fields → IsOk reading ↔ HaveNoFault fields
action_law (Ok x) fields h = (λ _. have_none fields (sym h), λ _. refl)
action_law (Err fault) fields h = (λ ok. absurd (cc (ok)), λ none. absurd (cc (h ∙ no_first fields none)))

-- ---- one field, and then the rest

step : {A B : Type 0} → (reading : Result A CallFault) (next : A
    → Result B CallFault) (rest : Checked) → ((x : A) → reading ≡ Ok x
    → result_err (next x) ≡ first_fault rest)
    → result_err (reading >>= next) ≡ first_fault (result_err reading ∷ rest)
step (Ok x) next rest h = h x refl
step (Err fault) next rest h = refl

last : {A B : Type 0} → (reading : Result A CallFault) (f : A → B) → result_err (reading >>= (λ x. Ok (f x))) ≡ result_err reading
last (Ok x) f = refl
last (Err fault) f = refl

after_none : (fields rest : Checked) → first_fault fields ≡ None → first_fault (fields ++ rest) ≡ first_fault rest
after_none [] rest h = refl
after_none (None ∷ fields) rest h = after_none fields rest h
after_none (Some fault ∷ fields) rest h = cc

within : (fields rest : Checked) (fault : CallFault) → first_fault fields ≡ Some fault → first_fault (fields ++ rest) ≡ Some fault
within [] rest fault h = cc
within (None ∷ fields) rest fault h = within fields rest fault h
within (Some other ∷ fields) rest fault h = h

-- fields that are read together, and then the rest
steps : {A B : Type 0} → (reading : Result A CallFault) (next : A
    → Result B CallFault) (fields rest : Checked)
    → result_err reading ≡ first_fault fields → ((x : A) → reading ≡ Ok x
    → result_err (next x) ≡ first_fault rest)
    → result_err (reading >>= next) ≡ first_fault (fields ++ rest)
steps (Ok x) next fields rest here h = h x refl ∙ sym (after_none fields rest (sym here))
steps (Err fault) next fields rest here h = sym (within fields rest fault (sym here))

regrouped : {A B C : Type 0} → (reading : Result A CallFault) (f : A → Result B CallFault) (g : B → Result C CallFault) → ((reading >>= f) >>= g) ≡ (reading >>= (λ x. f x >>= g))
regrouped (Ok x) f g = refl
regrouped (Err fault) f g = refl

-- ---- the contents of a field

single : (fault : Option CallFault) → first_fault (fault ∷ []) ≡ fault
single None = refl
single (Some fault) = refl

inside_value : {A : Type 0} → (inner : A → Checked) (rest : Checked) (name : FieldName) (field : Field A) (x : A) → required_value name field ≡ Ok x
    → first_fault (inner x ++ rest) ≡ first_fault (faults_of_value inner field ++ rest)
inside_value inner rest name Absent x h = cc
inside_value inner rest name WrongKind x h = cc
inside_value inner rest name WrongValue x h = cc
inside_value {A} inner rest name (Value y) x h = let e : y ≡ x = cc in ap (λ (z : A). first_fault (inner z ++ rest)) (sym e)

-- the contents of a field that is present
inside : {A : Type 0} → (inner : A → Checked) (rest : Checked) (read : NamedField A) (x : A) → required read ≡ Ok x
    → first_fault (inner x ++ rest) ≡ first_fault (faults_of_value inner read.field ++ rest)
unfolding required
inside inner rest read x h = inside_value inner rest read.name read.field x h

-- a field with its contents, and then the rest
within_field : {A B C : Type 0} → (read : NamedField A) (inner : A → Checked) (reading : A → Result B CallFault) (next : A → B
    → Result C CallFault) (rest : Checked)
    → ((x : A) → result_err (reading x) ≡ first_fault (inner x)) → ((x : A) (y : B) → result_err (next x y) ≡ first_fault rest)
    → result_err (required read >>= (λ x. reading x >>= next x)) ≡ first_fault (result_err (required read) ∷ (faults_of_value inner read.field ++ rest))
within_field read inner reading next rest here h =
    step (required read) _ _ (λ x e. steps (reading x) (next x) (inner x) rest (here x) (λ y _. h x y) ∙ inside inner rest read x e)

-- the contents of an optional field
abbrev faults_if_given : {A : Type 0} → (A → Checked) → Option A → Checked
faults_if_given inner None = []
faults_if_given inner (Some x) = inner x

inside_option : {A : Type 0} → (inner : A → Checked) (rest : Checked) (name : FieldName) (field : Field A) (found : Option A) → optional_value name field ≡ Ok found
    → first_fault (faults_if_given inner found ++ rest) ≡ first_fault (faults_of_value inner field ++ rest)
inside_option {A} inner rest name Absent found h =
    let e : None ≡ found = cc in ap (λ (z : Option A). first_fault (faults_if_given inner z ++ rest)) (sym e)
inside_option inner rest name WrongKind found h = cc
inside_option inner rest name WrongValue found h = cc
inside_option {A} inner rest name (Value y) found h =
    let e : Some y ≡ found = cc in ap (λ (z : Option A). first_fault (faults_if_given inner z ++ rest)) (sym e)

inside_optional : {A : Type 0} → (inner : A → Checked) (rest : Checked) (read : NamedField A) (found : Option A) → optional read ≡ Ok found
    → first_fault (faults_if_given inner found ++ rest) ≡ first_fault (faults_of_value inner read.field ++ rest)
unfolding optional
inside_optional inner rest read found h = inside_option inner rest read.name read.field found h

-- an optional field with its contents, and then the rest
within_optional : {A B C : Type 0} → (read : NamedField A) (inner : A → Checked) (reading : Option A → Result B CallFault) (next : Option A → B
    → Result C CallFault) (rest : Checked)
    → ((x : Option A) → result_err (reading x) ≡ first_fault (faults_if_given inner x)) → ((x : Option A) (y : B) → result_err (next x y) ≡ first_fault rest)
    → result_err (optional read >>= (λ x. reading x >>= next x)) ≡ first_fault (result_err (optional read) ∷ (faults_of_value inner read.field ++ rest))
within_optional read inner reading next rest here h =
    step (optional read) _ _ (λ x e. steps (reading x) (next x) (faults_if_given inner x) rest (here x) (λ y _. h x y) ∙ inside_optional inner rest read x e)

-- ---- a profile

by_test : (b : Bool) (entry node : Tree) (fault : CallFault) → (if b then Ok entry else Err fault) ≡ Ok node → node ≡ entry
by_test true entry node fault h = cc
by_test false entry node fault h = cc

-- the faults of an object inside a payload
abbrev period_faults : Tree → Checked
period_faults fields = faults_down 1 (fields_in objects.Period) fields

abbrev schedule_faults : Tree → Checked
schedule_faults fields = faults_down 2 (fields_in Schedule) fields

abbrev profile_faults : Tree → Checked
profile_faults fields = faults_down 3 (fields_in Profile) fields

period_first : (entry : Tree) → result_err (period_of entry) ≡ first_fault (entry_faults period_faults ChargingSchedulePeriod entry)
unfolding period_of
period_first entry =
    step (as_object ChargingSchedulePeriod entry) _ _ (λ node e. rw (by_test (is_object entry) entry node _ e)
    (step (required (whole_from_zero entry StartPeriod)) _ _ (λ _ _.
    step (required (tenths entry Limit)) _ _ (λ _ _.
    step (optional (whole_from_zero entry NumberPhases)) _ _ (λ _ _. refl)))))

each_first : (entries : List Tree) → result_err (each_period_of entries) ≡ first_fault (flat_map (entry_faults period_faults ChargingSchedulePeriod) entries)
each_first [] = refl
each_first (entry ∷ entries) =
    steps (period_of entry) _ (entry_faults period_faults ChargingSchedulePeriod entry) (flat_map (entry_faults period_faults ChargingSchedulePeriod) entries) (period_first entry)
    (λ period _. last (each_period_of entries) (λ periods. period ∷ periods) ∙ each_first entries)

not_empty : (period : Result Period CallFault) (periods : Result (List Period) CallFault) (read : List Period) → (period >>= (λ p. periods >>= (λ ps. Ok (p ∷ ps)))) ≡ Ok read → result_err (unless_empty read) ≡ None
not_empty (Ok p) (Ok ps) read h = let e : p ∷ ps ≡ read = cc in subst (λ (l : List Period). result_err (unless_empty l) ≡ None) e refl
not_empty (Ok p) (Err fault) read h = cc
not_empty (Err fault) periods read h = cc

empty_alike : (entries : List Tree) (read : List Period) → each_period_of entries ≡ Ok read → result_err (unless_empty read) ≡ empty_fault ChargingSchedulePeriod entries
empty_alike [] read h = let e : [] ≡ read = cc in subst (λ (l : List Period). result_err (unless_empty l) ≡ empty_fault ChargingSchedulePeriod []) e refl
empty_alike (entry ∷ entries) read h = not_empty (period_of entry) (each_period_of entries) read h

periods_first : (entries : List Tree) → result_err (periods_of entries) ≡ first_fault (entries_faults period_faults ChargingSchedulePeriod entries)
periods_first entries =
    steps (each_period_of entries) unless_empty (flat_map (entry_faults period_faults ChargingSchedulePeriod) entries) (empty_fault ChargingSchedulePeriod entries ∷ []) (each_first entries)
    (λ read e. empty_alike entries read e ∙ sym (single (empty_fault ChargingSchedulePeriod entries)))

schedule_first : (fields : Tree) → result_err (schedule_of fields) ≡ first_fault (schedule_faults fields)
unfolding schedule_of
schedule_first fields =
    step (optional (whole_from_zero fields Duration)) _ _ (λ _ _.
    step (optional (instant fields StartSchedule)) _ _ (λ _ _.
    step (required (one_name_of unit_named fields ChargingRateUnit)) _ _ (λ _ _.
    within_field (list fields ChargingSchedulePeriod) (entries_faults period_faults ChargingSchedulePeriod) periods_of _ _ periods_first (λ _ _.
    step (optional (tenths fields MinChargingRate)) _ _ (λ _ _. refl)))))

profile_first : (fields : Tree) → result_err (profile_of fields) ≡ first_fault (profile_faults fields)
unfolding profile_of
profile_first fields =
    step (required (whole fields ChargingProfileId)) _ _ (λ _ _.
    step (optional (whole fields TransactionId)) _ _ (λ _ _.
    step (required (whole_from_zero fields StackLevel)) _ _ (λ _ _.
    step (required (one_name_of purpose_named fields ChargingProfilePurpose)) _ _ (λ _ _.
    step (required (one_name_of kind_named fields ChargingProfileKind)) _ _ (λ _ _.
    step (optional (one_name_of recurrency_named fields RecurrencyKind)) _ _ (λ _ _.
    step (optional (instant fields ValidFrom)) _ _ (λ _ _.
    step (optional (instant fields ValidTo)) _ _ (λ _ _.
    within_field (object fields ChargingSchedule) schedule_faults schedule_of _ _ schedule_first (λ _ _. refl)))))))))

optional_profile_first : (fields : Option Tree) → result_err (optional_profile_of fields) ≡ first_fault (faults_if_given profile_faults fields)
optional_profile_first None = refl
optional_profile_first (Some fields) = last (profile_of fields) (λ (profile : ProfileParts). Some profile) ∙ profile_first fields

-- ---- the actions

set_first : (payload : Tree) → result_err (set_charging_profile_of payload) ≡ first_fault (field_faults SetChargingProfile payload)
unfolding set_charging_profile_of
set_first payload =
    step (required (whole_from_zero payload ConnectorId)) _ _ (λ _ _.
    within_field (object payload CsChargingProfiles) profile_faults profile_of _ _ profile_first (λ _ _. refl))

clear_first : (payload : Tree) → result_err (clear_charging_profile_of payload) ≡ first_fault (field_faults ClearChargingProfile payload)
unfolding clear_charging_profile_of
clear_first payload =
    step (optional (whole payload Id)) _ _ (λ _ _.
    step (optional (whole_from_zero payload ConnectorId)) _ _ (λ _ _.
    step (optional (one_name_of purpose_named payload ChargingProfilePurpose)) _ _ (λ _ _.
    step (optional (whole_from_zero payload StackLevel)) _ _ (λ _ _. refl))))

get_first : (payload : Tree) → result_err (get_composite_schedule_of payload) ≡ first_fault (field_faults GetCompositeSchedule payload)
unfolding get_composite_schedule_of
get_first payload =
    step (required (whole_from_zero payload ConnectorId)) _ _ (λ _ _.
    step (required (whole_from_zero payload Duration)) _ _ (λ _ _.
    step (optional (one_name_of unit_named payload ChargingRateUnit)) _ _ (λ _ _. refl)))

audit_first : (payload : Tree) → result_err (audit_point_of payload) ≡ first_fault (field_faults AuditPoint payload)
unfolding audit_point_of
audit_first payload =
    step (required (whole_from_zero payload ConnectorId)) _ _ (λ _ _.
    step (required (whole_from_zero payload Duration)) _ _ (λ _ _. refl))

-- an idTag with its length, and then the rest
id_tag_first : {A : Type 0} → (payload : Tree) (next : List ℕ → Result A CallFault) (rest : Checked) → ((tag : List ℕ) → result_err (next tag) ≡ first_fault rest)
    → result_err (id_tag_of payload >>= next) ≡ first_fault (result_err (required (text payload IdTag)) ∷ (faults_of_value (id_tag_faults IdTag) (text payload IdTag).field ++ rest))
unfolding id_tag_of
id_tag_first payload next rest h =
    ap result_err (regrouped (required (text payload IdTag)) (as_id_tag IdTag) next)
    ∙ within_field (text payload IdTag) (id_tag_faults IdTag) (as_id_tag IdTag) (λ _. next) rest (λ tag. sym (single (result_err (as_id_tag IdTag tag)))) (λ _ tag. h tag)

remote_first : (payload : Tree) → result_err (remote_start_of payload) ≡ first_fault (field_faults RemoteStartTransaction payload)
unfolding remote_start_of
remote_first payload =
    step (required (whole_from_zero payload ConnectorId)) _ _ (λ _ _.
    id_tag_first payload _ _ (λ _.
    within_optional (object payload ChargingProfile) profile_faults optional_profile_of _ _ optional_profile_first (λ _ _. refl)))

start_first : (payload : Tree) → result_err (start_transaction_of payload) ≡ first_fault (field_faults StartTransaction payload)
unfolding start_transaction_of
start_first payload =
    step (required (whole_from_zero payload ConnectorId)) _ _ (λ _ _.
    id_tag_first payload _ _ (λ _.
    step (required (whole payload MeterStart)) _ _ (λ _ _.
    step (required (instant payload Timestamp)) _ _ (λ _ _. refl))))

stop_first : (payload : Tree) → result_err (stop_transaction_of payload) ≡ first_fault (field_faults StopTransaction payload)
unfolding stop_transaction_of
stop_first payload = step (required (whole payload TransactionId)) _ _ (λ _ _. refl)

pub action_first : (kind : ActionKind) (payload : Tree) → result_err (action_of_kind kind payload) ≡ first_fault (field_faults kind payload)
action_first SetChargingProfile payload = set_first payload
action_first ClearChargingProfile payload = clear_first payload
action_first GetCompositeSchedule payload = get_first payload
action_first RemoteStartTransaction payload = remote_first payload
action_first AuditPoint payload = audit_first payload
action_first PointStatus payload = refl
action_first BootNotification payload = refl
action_first Heartbeat payload = refl
action_first Authorize payload = refl
action_first StartTransaction payload = start_first payload
action_first StopTransaction payload = stop_first payload
action_first StatusNotification payload = refl
action_first MeterValues payload = refl
action_first FirmwareStatusNotification payload = refl
action_first DiagnosticsStatusNotification payload = refl
action_first DataTransfer payload = refl
